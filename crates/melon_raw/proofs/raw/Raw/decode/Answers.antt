use Rattle.std.proofs.Common.{◌≡◌, Some, None, sym, ◌∙◌, subst}
use Rattle.melon_schema.specs.Refusals.{Refuses}
use Rattle.melon_schema.specs.declared.refusal.Refusal.{Refusal}
use Rattle.melon_raw.specs.Decoding.{kept_row}
use Rattle.melon_raw.proofs.RowBack.{kept_row-is, kept_row-found}
use Rattle.melon_raw.proofs.raw.Raw.decode.Goals as goal

pub returns-in-Ok-clause-exact : goal.returns-in-Ok-clause-exact
returns-in-Ok-clause-exact c = kept_row-is c.args.table.now c.args.bytes.now c.in-Ok.row c.in-Ok.ensures

pub returns-in-Err-Form-clause-exact : goal.returns-in-Err-Form-clause-exact
returns-in-Err-Form-clause-exact c = λ sound utf8 row fits is.
    let none : kept_row c.args.table.now c.args.bytes.now ≡ None = subst (λ (e : Refusal). Refuses e (kept_row c.args.table.now c.args.bytes.now)) c.in-Err-Form.field-0-is c.in-Err-Form.ensures in
    let e : None ≡ Some row = sym none ∙ kept_row-found c.args.table.now c.args.bytes.now row sound utf8 fits is in
    cc
