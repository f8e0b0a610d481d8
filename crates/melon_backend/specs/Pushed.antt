-- What a push does of its plan.
use Rattle.std.specs.Prelude.{◌≡◌, ℕ, Some, Result, Ok, Err, ⊤}
use Rattle.melon_outside.specs.declared.kept.KeptBatch.{KeptBatch}
use Rattle.melon_log.specs.declared.fault.PushFault.{PushFault}
use Rattle.melon_log.specs.declared.fault.PushFault.TheVariants.{StoreFull, KeeperFault, Memory}
use Rattle.melon_backend.specs.Backends.{SeenBackend, Plan, asked}

-- the plan is to commit, and nothing refuses it
abbrev pub IsAsked : Result Plan PushFault → Type 0
IsAsked plan = (batch : KeptBatch) × (asked plan ≡ Some batch)

-- a fault of the keeper, or want of memory
abbrev pub IsOfKeeper : PushFault → Type 0
IsOfKeeper KeeperFault = Unit {0}
IsOfKeeper Memory = Unit {0}
IsOfKeeper fault = ⊥

-- a refusal by the rows that are kept, the names and the texts
abbrev pub IsOfRows : PushFault → Type 0
IsOfRows (StoreFull bytes) = ⊥
IsOfRows KeeperFault = ⊥
IsOfRows Memory = ⊥
IsOfRows fault = Unit {0}

-- a refusal by the limit of the store
abbrev pub IsOfLimit : PushFault → Type 0
IsOfLimit (StoreFull bytes) = Unit {0}
IsOfLimit fault = ⊥

-- a refusal that the keeper has no part in
abbrev pub IsOfPush : PushFault → Type 0
IsOfPush KeeperFault = ⊥
IsOfPush fault = Unit {0}

-- The answer is the revision, and the backend is as planned. A keeper's fault hides no refusal. Every other fault but want
-- of memory is the plan's. After each fault the backend is as it was.
abbrev pub IsPushed : Result Plan PushFault → SeenBackend → SeenBackend → Result ℕ PushFault → Type 0
IsPushed plan was now (Ok revision) = (plan ≡ Ok (record { batch = asked plan; after = now })) × (revision ≡ now.revision)
IsPushed plan was now (Err KeeperFault) = IsAsked plan × (now ≡ was)
IsPushed plan was now (Err Memory) = now ≡ was
IsPushed plan was now (Err fault) = (plan ≡ Err fault) × (now ≡ was)

-- The answer has this verdict: a push is accepted, or refused by the limit or the keeper, only where that refuses nothing,
-- and every other fault but want of memory is its own.
abbrev pub IsVerdict : Result ⊤ PushFault → Result ℕ PushFault → Type 0
IsVerdict verdict (Ok revision) = verdict ≡ Ok tt
IsVerdict verdict (Err (StoreFull bytes)) = verdict ≡ Ok tt
IsVerdict verdict (Err KeeperFault) = verdict ≡ Ok tt
IsVerdict verdict (Err Memory) = Unit {0}
IsVerdict verdict (Err fault) = verdict ≡ Err fault
