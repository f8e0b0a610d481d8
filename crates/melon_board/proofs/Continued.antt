-- The journal of an open store goes on as a legal history.
use Rattle.std.proofs.Common.{◌≡◌, ℕ, ◌+◌, ◌<◌, List, [], ◌∷◌, length, Result, Ok, refl, subst, arith}
use Rattle.melon_raw.specs.Rows.{Rows}
use Rattle.melon_outside.specs.declared.kept.Kept.{Kept}
use Rattle.melon_change.specs.declared.history.Entry.{Entry}
use Rattle.melon_change.specs.History.{IsEntry}
use Rattle.melon_change.proofs.Legal.{bind_ok}
use Rattle.melon_schema.specs.Seen.{SeenSchema}
use Rattle.melon_board.specs.Stores.{SeenStore, with_entry, Continues}
use Rattle.melon_board.specs.Batches.{version_name}
use Rattle.melon_board.specs.Plans.{Plan, entry_plan}
use Rattle.melon_board.specs.Opening.{rows_opened, same_version, value_in, open_plan}
use Rattle.melon_board.specs.Lasting.{OpeningsBegin, WritesContinue, InstallsContinue, SavesContinue}
use Rattle.melon_board.proofs.Histories.{continued}
use Rattle.melon_board.proofs.KeptOn.{entry_plan-is, same_plan, batch_planned}
use Rattle.melon_board.proofs.Reopened.{opened_plan, open_plan-is}

pub opens : OpeningsBegin
opens name schema kept plan h =
    let o = open_plan-is name schema kept plan h in
    subst (λ (p : Plan). Continues p.after.rows p.after) o.is (record { legal = tt; replayed = refl })

pub installs_on : InstallsContinue
installs_on opening store origin [] plan so_far legal h = subst (λ (p : Plan). Continues opening p.after) (same_plan store plan h) so_far
installs_on opening store origin (c ∷ cs) plan so_far legal h =
    let e : Entry = record { origin = origin; set = c ∷ cs } in
    let entry : IsEntry store.schema.tables store.rows e = (omega arith, legal) in
    subst (λ (p : Plan). Continues opening p.after) (entry_plan-is store e plan h) (continued opening store e entry so_far)

pub writes_on : WritesContinue
writes_on opening store ops plan formed so_far h = let made = batch_planned store ops plan formed h in installs_on opening store _ made.0 plan so_far made.1 made.2

pub saves_on : SavesContinue
saves_on opening store at so_far = record { legal = so_far.legal; replayed = so_far.replayed }
