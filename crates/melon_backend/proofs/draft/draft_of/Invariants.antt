use Rattle.std.proofs.Common.{take}
use Rattle.melon_backend.specs.Listing.{namings_seen}
use Rattle.melon_backend.specs.Drafts.{IsDraft}
use Rattle.melon_backend.proofs.draft.draft_of.Given as goal

abbrev pub invariant-loop-one : goal.invariant-loop-one
invariant-loop-one l = IsDraft l.schema.tables l.revision (namings_seen (take l.one-index l.named)) l.draft
