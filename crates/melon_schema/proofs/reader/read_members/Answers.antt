use Rattle.std.proofs.Common.{◌≡◌, ◌∷◌, ◌∙◌, [], string_bytes}
use Rattle.std.proofs.lemmas.Result.{err_from_is_err_and}
use Rattle.serde_json.specs.View.{view}
use Rattle.melon_schema.proofs.Each.{each-named, each_next, each_next_refused, each_ended}
use Rattle.melon_schema.proofs.reader.read_members.Goals as goal

pub returns-in_err-from_member : goal.returns-in_err-from_member
returns-in_err-from_member g c =
    let p = err_from_is_err_and c.from_residual.result c.from_residual.ensures.1 in
    let form = g.T.FromMember.member_form in
    let is : c.loop-key.key-iterator ≡ (c.in-Some.key.now, c.in-Some.value.now) ∷ c.next.new.self = c.in-Some.ensures.steps in
    rw (p.1, p.2, each-named form c.args.members.now.entries)
    (each_next_refused (λ e. form (string_bytes e.0) (view e.1)) _ c.args.members.now.entries _ _ (c.in-Some.key.now, c.in-Some.value.now) c.loop-key.read is
    (rw c.as_str.ensures.value at c.in_err-from_member.ensures) c.loop-key.invariant)

pub loop-key-preserved : goal.loop-key-preserved
loop-key-preserved g c =
    let form = g.T.FromMember.member_form in
    let is : c.loop-key.key-iterator ≡ (c.in-Some.key.now, c.in-Some.value.now) ∷ c.next.new.self = c.in-Some.ensures.steps in
    rw c.in_ok-push.ensures.ok (each_next (λ e. form (string_bytes e.0) (view e.1)) _ _ (c.in-Some.key.now, c.in-Some.value.now) _ c.loop-key.read is
    (rw c.as_str.ensures.value at c.in_ok-from_member.ensures) ∙ c.loop-key.invariant)

pub returns : goal.returns
returns g c =
    let form = g.T.FromMember.member_form in
    let is : c.loop-key.key-iterator ≡ [] = c.in-None.ensures.steps.0 in
    each-named form c.args.members.now.entries ∙ each_ended (λ e. form (string_bytes e.0) (view e.1)) _ _ c.loop-key.read is c.loop-key.invariant
