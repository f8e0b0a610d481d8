-- What a stop leaves where nothing was asked of the keeper.
use Rattle.std.proofs.Common.{inl, List, ℕ, Option, Some, None}
use Rattle.melon_outside.specs.declared.kept.KeptBatch.{KeptBatch}
use Rattle.melon_outside.specs.Keeping.{Stores, AreSame, IsLeft, Leaves}

pub same_left : (batch : Option KeptBatch) (store : List ℕ) (was left : Stores) → AreSame left was → IsLeft batch store was left
same_left None store was left same = same
same_left (Some batch) store was left same = inl same

-- whichever batch would have been asked
pub quiet : (Holds MayLeave : Stores → Type 0) → ((m left : Stores) → Holds m → MayLeave left → AreSame left m) → (batch : Option KeptBatch) (store : List ℕ) → Leaves batch store Holds MayLeave
quiet Holds MayLeave between batch store was h left l = same_left batch store was left (between was left h l)
