use Rattle.std.proofs.Common.{sym, subst, arith}
use Rattle.sqlite.specs.Effect.{Database}
use Rattle.melon_sqlite.specs.Opening.{Keeps, KeepsBoth}
use Rattle.melon_sqlite.proofs.opening.with_tables.Goals as goal

pub returns-in-Ok-make_tables-clause-kept : goal.returns-in-Ok-make_tables-clause-kept
returns-in-Ok-make_tables-clause-kept g c clean is_open m kept =
    let s = c.in-Ok.ensures.settled (omega (arith, c.make_tables.ensures.clean, clean)) (c.make_tables.ensures.opened clean is_open) in
    let r = c.in-Ok-make_tables.ensures.kept clean m s.0 (subst (λ (d : Database). Keeps d m) (sym s.1) kept) in
    subst (λ (d : Database). KeepsBoth d m) (sym r.0.committed) r.1
