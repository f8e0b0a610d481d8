use Rattle.std.proofs.Common.{List, ◌++◌, map, ap, sym, ◌∙◌}
use Rattle.std.proofs.lemmas.Result.{err_from_is_err_and}
use Rattle.melon_log.specs.ServerRows.{at_id}
use Rattle.melon_log.specs.Verdict.{if_any}
use Rattle.melon_backend.specs.declared.listed.Listed.{Listed}
use Rattle.melon_backend.specs.Inside.{rows_in, tables_rows}
use Rattle.melon_backend.specs.Listing.{tellings_seen, namings_seen, naming_told, repeated_in}
use Rattle.melon_backend.specs.Pushing.{Naming}
use Rattle.melon_backend.proofs.LaidOut.{rows_at}
use Rattle.melon_backend.proofs.Seen.{all_plain}
use Rattle.melon_backend.proofs.Tellings.{repeated_told, none_again, any_ok, namings_told}
use Rattle.melon_backend.proofs.named.name_known.Goals as goal

pub returns-in_err-refuse_repeated-clause-once : goal.returns-in_err-refuse_repeated-clause-once
returns-in_err-refuse_repeated-clause-once c =
    let p = err_from_is_err_and c.from_residual-in_err-refuse_repeated.result c.from_residual-in_err-refuse_repeated.ensures.1 in
    let same = repeated_told c.args.told.now (tellings_seen c.in_ok-listed.listed.items) c.in_ok-listed.ensures.moved c.in_ok-listed.ensures.rising ∙ ap (λ (ls : List Listed). repeated_in c.args.told.now (tellings_seen ls)) (sym c.as_slice.ensures.value) in
    rw (p.1, p.2) (λ other. ap if_any same ∙ c.in_err-refuse_repeated.ensures other)

pub returns-clause-once : goal.returns-clause-once
returns-clause-once c =
    repeated_told c.args.told.now (tellings_seen c.in_ok-listed.listed.items) c.in_ok-listed.ensures.moved c.in_ok-listed.ensures.rising
    ∙ (ap (λ (ls : List Listed). repeated_in c.args.told.now (tellings_seen ls)) (sym c.as_slice.ensures.value) ∙ any_ok _ c.in_ok-refuse_repeated.ensures)

pub returns-clause-named : goal.returns-clause-named
returns-clause-named c =
    let told = c.args.told.now in
    let seen = tellings_seen c.in_ok-listed.listed.items in
    let table = c.index-tables-table.result in
    let once = ap (λ (ls : List Listed). repeated_in told (tellings_seen ls)) (sym c.as_slice.ensures.value) ∙ any_ok _ c.in_ok-refuse_repeated.ensures in
    c.in_ok-name_listed.ensures
    ∙ ap (λ (rest : List Naming). namings_seen c.args.named.now.items ++ rest)
    (ap (λ (ls : List Listed). map (naming_told (rows_in table) c.args.table) (tellings_seen ls)) c.as_slice-2.ensures.value
    ∙ namings_told told seen c.in_ok-listed.ensures.moved c.in_ok-listed.ensures.rising (none_again told seen once) (tables_rows c.args.tables.now) c.args.table (rows_in table)
    (λ id. ap (at_id id) (sym (rows_at c.args.tables.now c.args.table table c.requires.within c.index-tables-table.is))) (all_plain c.in_ok-listed.listed.items))
