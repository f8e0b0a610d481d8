use Rattle.std.proofs.Common.{ℕ, List, bytes_eq, sym, ap, ◌∙◌}
use Rattle.melon_backend.proofs.Tables.{row_was, shown_is, own_stamp, put_kept, put_keeps}
use Rattle.melon_backend.proofs.table.ServerTable.put.Goals as goal

pub returns-in-Some-clause-kept : goal.returns-in-Some-clause-kept
returns-in-Some-clause-kept c =
    put_kept c.args.self.now c.args.row c.requires.kept c.requires.ready c.set_row.new.places c.set_row.ensures.entries c.drop_stamp.new.stamps
    (λ q apart has. c.drop_stamp.ensures.keeps q (ap (λ (i : List ℕ). bytes_eq q.id i) (row_was c.args.self.now c.args.row.id c.in-Some.was c.requires.kept c.in-Some.ensures.was) ∙ apart) has)
    (c.drop_stamp.ensures.later c.args.row (sym c.greatest-revision.ensures) (own_stamp c.args.self.now c.args.row c.requires.kept c.requires.ready c.set_row.new.places c.set_row.ensures.entries))

pub returns-in-Some-clause-shown : goal.returns-in-Some-clause-shown
returns-in-Some-clause-shown c = shown_is c.args.self.now c.args.row c.requires.kept c.requires.ready c.set_row.new.places c.set_row.ensures.entries

pub returns-in-Some-clause-keeps : goal.returns-in-Some-clause-keeps
returns-in-Some-clause-keeps c =
    put_keeps c.args.self.now c.args.row c.requires.kept c.requires.ready c.set_row.new.places c.set_row.ensures.entries c.drop_stamp.new.stamps
    (λ q apart has. c.drop_stamp.ensures.keeps q (ap (λ (i : List ℕ). bytes_eq q.id i) (row_was c.args.self.now c.args.row.id c.in-Some.was c.requires.kept c.in-Some.ensures.was) ∙ apart) has)

pub returns-in_default-clause-kept : goal.returns-in_default-clause-kept
returns-in_default-clause-kept c =
    put_kept c.args.self.now c.args.row c.requires.kept c.requires.ready c.set_row.new.places c.set_row.ensures.entries c.args.self.now.stamps (λ q apart has. has)
    (own_stamp c.args.self.now c.args.row c.requires.kept c.requires.ready c.set_row.new.places c.set_row.ensures.entries)

pub returns-in_default-clause-shown : goal.returns-in_default-clause-shown
returns-in_default-clause-shown c = shown_is c.args.self.now c.args.row c.requires.kept c.requires.ready c.set_row.new.places c.set_row.ensures.entries

pub returns-in_default-clause-keeps : goal.returns-in_default-clause-keeps
returns-in_default-clause-keeps c =
    put_keeps c.args.self.now c.args.row c.requires.kept c.requires.ready c.set_row.new.places c.set_row.ensures.entries c.args.self.now.stamps (λ q apart has. has)
