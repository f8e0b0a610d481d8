use Rattle.std.proofs.Common.{◌≡◌, List, length, ap, ◌∙◌, length-take, arith}
use Rattle.melon_raw.specs.declared.raw.Raw.{Raw}
use Rattle.melon_table.specs.Dirty.{is_dirty, dirty_rows}
use Rattle.melon_table.proofs.DirtyBelow.{all_pass, below_dirty}
use Rattle.melon_table.proofs.search.dirty_before.Goals as goal

pub returns-then-dirty-len : goal.returns-then-dirty-len
returns-then-dirty-len c =
    let rows = c.args.rows.now.rows in
    let all : length (dirty_rows rows) ≡ length rows = omega (arith, c.dirty_len-dirty.ensures, c.len-2.ensures, c.if-dirty-len.true) in
    let pass = all_pass (λ (r : Raw). is_dirty r.status) rows c.args.place all in
    let long = length-take c.args.place rows in
    omega (arith, pass, long, c.requires.within)

pub returns : goal.returns
returns c =
    let rows = c.args.rows.now.rows in
    c.find_below.ensures ∙ (ap length (below_dirty c.args.id.now rows) ∙ ap (λ (l : List Raw). length (dirty_rows l)) c.requires.place)
