-- What a stop leaves, from what the keeper's calls leave.
use Rattle.std.proofs.Common.{◌≡◌, List, ℕ, Option, Some, None, Result, Ok, Err, ap, sym, subst}
use Rattle.melon_schema.specs.Seen.{SeenSchema}
use Rattle.melon_outside.specs.declared.kept.Kept.{Kept}
use Rattle.melon_outside.specs.declared.kept.KeptBatch.{KeptBatch}
use Rattle.melon_outside.specs.declared.kept.OpenFault.{OpenFault}
use Rattle.melon_outside.specs.declared.keeper.KeeperError.{KeeperError}
use Rattle.melon_outside.specs.Keeping.{Stores, AreSame, IsLeft, Leaves}
use Rattle.melon_outside.specs.SeenKeeper.{SeenKeeper, Loads}
use Rattle.melon_outside.proofs.Stopped.{same_left}
use Rattle.melon_board.specs.Stores.{SeenStore, store_key}
use Rattle.melon_board.specs.Plans.{Plan, asked}
use Rattle.melon_board.specs.Opening.{open_plan}
use Rattle.melon_board.specs.Carried.{LeavesOpened}

-- where the keeper isn't asked
pub quiet_opened : (s : SeenKeeper) → ((m left : Stores) → s.holds m → s.may_leave left → AreSame left m) → (name : List ℕ) (schema : SeenSchema) → LeavesOpened s s name schema
quiet_opened s between name schema was h left l = same_left _ (store_key name) was left (between was left h l)

-- after a load
pub loaded_opened : (before now : SeenKeeper) (key name : List ℕ) (schema : SeenSchema) (r : Result Kept KeeperError) → Loads key r before now → LeavesOpened before now name schema
loaded_opened before now key name schema r loads was h left l = same_left _ (store_key name) was left (loads.leaves was h left l)

-- after the commit of what was missing
pub committed_opened : (before mid now : SeenKeeper) (name : List ℕ) (schema : SeenSchema) (kept : Kept) (batch : Option KeptBatch) (after : SeenStore) → open_plan name schema kept ≡ Ok (record { batch = batch; after = after })
    → Loads (store_key name) (Ok kept) before mid → ((left : Stores) → now.may_leave left → now.honest) → (now.honest → mid.honest) → Leaves batch (store_key name) mid.holds now.may_leave → LeavesOpened before now name schema
committed_opened before mid now name schema kept batch after plan loads honestly was_honest leaves was h left l =
    let is : asked (open_plan name schema kept) ≡ batch = ap (λ (p : Result Plan OpenFault). asked p) plan in
    let on : mid.holds was = loads.goes_on (was_honest (honestly left l)) was h in
    subst (λ (k : Kept). IsLeft (asked (open_plan name schema k)) (store_key name) was left) (loads.found was on)
    (subst (λ (b : Option KeptBatch). IsLeft b (store_key name) was left) (sym is) (leaves was on left l))
