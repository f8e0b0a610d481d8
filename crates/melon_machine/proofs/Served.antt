-- What an opening makes of the server: it stands for the log that begins with its rows, and what is kept of it stays what the log amounts to.
use Rattle.std.proofs.Common.{◌≡◌, ℕ, List, Bool, true, false, refl, ap, sym, ◌∙◌, subst}
use Rattle.std.specs.Prelude.{Option, Some, None, Result, Ok, Err, if◌then◌else◌}
use Rattle.serde_json.specs.Data.{Data}
use Rattle.melon_schema.specs.Schema.{schema_of}
use Rattle.melon_schema.specs.Seen.{SeenSchema}
use Rattle.melon_schema.specs.declared.schema_fault.SchemaFault.{SchemaFault}
use Rattle.melon_outside.specs.Kept.{is_in_order}
use Rattle.melon_outside.specs.Keeping.{Stores}
use Rattle.melon_outside.specs.declared.kept.Kept.{Kept}
use Rattle.melon_outside.specs.declared.kept.KeptBatch.{KeptBatch}
use Rattle.melon_outside.specs.declared.kept.OpenFault.{OpenFault}
use Rattle.melon_log.specs.Laws.{NamesApart}
use Rattle.melon_backend.specs.Backends.{Plan, open_plan}
use Rattle.melon_backend.specs.Keeps.{KeepsLog, kept_after}
use Rattle.melon_backend.specs.Standing.{Stands, opened_log, IsWellKept}
use Rattle.melon_backend.proofs.OpenedRows.{all_read, read_long, read_ascends, read_bare, open_plan-is}
use Rattle.melon_backend.proofs.Stood.{opening_stands}
use Rattle.melon_backend.proofs.KeptLogs.{opening_begins}
use Rattle.melon_board.proofs.Distinct as schemas
use Rattle.melon_script.specs.declared.item.Item.TheVariants as items
use Rattle.melon_machine.specs.Calls.{Calls, Done, Load, asks, with_end, next, after_next, after_batch, follow}
use Rattle.melon_machine.specs.Legal.{IsLegalServer, IsLegalIfOpen}
use Rattle.melon_machine.specs.Outcomes.{Stepped, stepped}
use Rattle.melon_machine.specs.Refusals.{keeper_refusal}
use Rattle.melon_machine.specs.Servers.{begins_by, begins_over, begins_under, backend_step, server_step, kept_server}
use Rattle.melon_machine.specs.Sound.{IsSoundIfOpen}
use Rattle.melon_machine.specs.State.{Server, server_store, server_opened, server_kept, server_if_kept, with_log, with_rows}
use Rattle.melon_machine.proofs.Followed.{asks_end}
use Rattle.melon_machine.proofs.Lasting.{ordered_after}
use Rattle.melon_machine.proofs.Legality.{Always, always_asked}
use Rattle.melon_machine.proofs.Names.{kept_there}

-- the tables of a schema that was read have different names
read_apart : (json : Data) (schema : SeenSchema) → schema_of json ≡ Ok schema → NamesApart schema.tables
read_apart json schema is i j within within' same = schemas.one_place schema.tables i j (schemas.read json schema is) within within' same

-- ---- the opened server

module _ (schema : SeenSchema) (apart : NamesApart schema.tables) (kept : Kept) (plan : Plan) (opens : open_plan server_store schema kept ≡ Ok plan) where
  opened_stands : Stands (opened_log plan.after) plan.after
  opened_stands =
      let o = open_plan-is server_store schema kept plan opens in
      let read = all_read schema.tables apart kept.rows _ o.rows o.read in
      let well : IsWellKept (record { name = server_store; schema = schema; rows = o.rows; revision = plan.after.revision }) = record {
        long = read_long schema.tables apart kept.rows o.rows read;
        ascending = read_ascends schema.tables apart kept.rows o.rows read;
        bare = read_bare schema.tables apart kept.rows o.rows read;
      } in
      subst (λ (p : Plan). NamesApart p.after.schema.tables → IsWellKept p.after → Stands (opened_log p.after) p.after) o.is (opening_stands _) (subst (λ (p : Plan). NamesApart p.after.schema.tables) o.is apart)
      (subst (λ (p : Plan). IsWellKept p.after) o.is (record { long = well.long; ascending = well.ascending; bare = well.bare }))

  opened_name : plan.after.name ≡ server_store
  opened_name = sym (ap (λ (p : Plan). p.after.name) (open_plan-is server_store schema kept plan opens).is)

  -- as the code has it, it is the backend that was opened
  opened_same : server_kept (server_opened plan.after) ≡ plan.after
  opened_same = λ i. record { name = sym opened_name i; schema = plan.after.schema; rows = opened_stands.rows i; revision = opened_stands.revision i }

  opened_legal : IsLegalServer (server_opened plan.after)
  opened_legal = subst (Stands (opened_log plan.after)) (sym opened_same) opened_stands

-- ---- as the code has it

begins_by_same : (schema : SeenSchema) → NamesApart schema.tables → (kept : Kept) (r : Result Plan OpenFault) → open_plan server_store schema kept ≡ r → begins_by with_rows r ≡ with_end kept_server (begins_by with_log r)
begins_by_same schema apart kept (Ok plan) is =
    (λ i. asks server_store plan.batch (stepped (Some (sym (opened_same schema apart kept plan is) i)) (items.Backend plan.after.revision)) (stepped None keeper_refusal))
    ∙ asks_end kept_server server_store plan.batch (stepped (Some (server_opened plan.after)) (items.Backend plan.after.revision)) (stepped None keeper_refusal)
begins_by_same schema apart kept (Err fault) is = refl

begins_over_same : (schema : SeenSchema) → NamesApart schema.tables → (kept : Option Kept) → begins_over with_rows schema kept ≡ with_end kept_server (begins_over with_log schema kept)
begins_over_same schema apart None = refl
begins_over_same schema apart (Some kept) = begins_by_same schema apart kept (open_plan server_store schema kept) refl

begins_under_same : (json : Data) (r : Result SeenSchema SchemaFault) → schema_of json ≡ r → begins_under with_rows r ≡ with_end kept_server (begins_under with_log r)
begins_under_same json (Err fault) is = refl
begins_under_same json (Ok schema) is = λ i. Load server_store (λ kept. begins_over_same schema (read_apart json schema is) kept i)

pub backend_same : (server : Option Server) (json : Data) → backend_step with_rows (server_if_kept server) json ≡ with_end kept_server (backend_step with_log server json)
backend_same None json = begins_under_same json (schema_of json) refl
backend_same (Some server) json = refl

pub server_same : (server : Option Server) (table : List ℕ) → server_step with_rows (server_if_kept server) table ≡ kept_server (server_step with_log server table)
server_same None table = refl
server_same (Some server) table = refl

-- ---- legality

abbrev pub ServerLegal : Calls (Stepped (Option Server)) → Type 0
ServerLegal calls = Always (λ s. IsLegalIfOpen s.after) calls

begins_by_legal : (schema : SeenSchema) → NamesApart schema.tables → (kept : Kept) (r : Result Plan OpenFault) → open_plan server_store schema kept ≡ r → ServerLegal (begins_by with_log r)
begins_by_legal schema apart kept (Err fault) is = tt
begins_by_legal schema apart kept (Ok plan) is = always_asked (λ s. IsLegalIfOpen s.after) server_store plan.batch _ _ (opened_legal schema apart kept plan is) tt

begins_under_legal : (json : Data) (r : Result SeenSchema SchemaFault) → schema_of json ≡ r → ServerLegal (begins_under with_log r)
begins_under_legal json (Err fault) is = tt
begins_under_legal json (Ok schema) is = (λ kept ordered. begins_by_legal schema (read_apart json schema is) kept (open_plan server_store schema kept) refl, tt)

pub backend_legal : (server : Option Server) (json : Data) → IsLegalIfOpen server → ServerLegal (backend_step with_log server json)
backend_legal None json h = begins_under_legal json (schema_of json) refl
backend_legal (Some server) json h = h

-- ---- what is kept

-- what is kept is in order, and is what the server's log amounts to
pub record Stays (server : Option Server) (kept : Stores) : Type 0 where
  pub ordered : (name : List ℕ) → is_in_order (kept name) ≡ true
  pub sound : IsSoundIfOpen server kept

-- whatever becomes of the calls
abbrev pub ServerLasts : Calls (Stepped (Option Server)) → Stores → Type 0
ServerLasts calls kept = (outcomes : List Bool) → Stays (follow calls kept outcomes).value.after (follow calls kept outcomes).kept

module _ (kept : Stores) (ordered : (name : List ℕ) → is_in_order (kept name) ≡ true) where
  closed_stays : Stays None kept
  closed_stays = record { ordered = ordered; sound = tt }

  asked_lasts : (server : Server) (batch : Option KeptBatch) (done failed : Stepped (Option Server)) → done.after ≡ Some server → failed.after ≡ None
      → KeepsLog server.log server.schema.version (kept_after batch (kept server_store)) → ServerLasts (asks server_store batch done failed) kept
  asked_lasts server None done failed opened closed keeps outcomes = subst (λ (s : Option Server). Stays s kept) (sym opened) (record { ordered = ordered; sound = keeps })
  asked_lasts server (Some batch) done failed opened closed keeps outcomes = by (next outcomes)
    where
      by : (b : Bool) → Stays (if b then follow (Done done) (after_batch server_store batch kept) (after_next outcomes) else follow (Done failed) kept (after_next outcomes)).value.after
          (if b then follow (Done done) (after_batch server_store batch kept) (after_next outcomes) else follow (Done failed) kept (after_next outcomes)).kept
      by true = subst (λ (s : Option Server). Stays s (after_batch server_store batch kept)) (sym opened) (record {
        ordered = ordered_after server_store batch kept ordered keeps.ordered;
        sound = subst (KeepsLog server.log server.schema.version) (sym (kept_there server_store batch kept)) keeps;
      })
      by false = subst (λ (s : Option Server). Stays s kept) (sym closed) closed_stays

  begins_by_lasts : (schema : SeenSchema) → NamesApart schema.tables → (r : Result Plan OpenFault) → open_plan server_store schema (kept server_store) ≡ r → ServerLasts (begins_by with_log r) kept
  begins_by_lasts schema apart (Err fault) is outcomes = closed_stays
  begins_by_lasts schema apart (Ok plan) is outcomes =
      asked_lasts (server_opened plan.after) plan.batch (stepped (Some (server_opened plan.after)) (items.Backend plan.after.revision)) (stepped None keeper_refusal) refl refl
      (opening_begins server_store schema (kept server_store) plan apart (ordered server_store) is).keeps outcomes

  begins_under_lasts : (json : Data) (r : Result SeenSchema SchemaFault) → schema_of json ≡ r → ServerLasts (begins_under with_log r) kept
  begins_under_lasts json (Err fault) is outcomes = closed_stays
  begins_under_lasts json (Ok schema) is outcomes = by (next outcomes)
    where
      by : (b : Bool) → Stays (if b then follow (begins_over with_log schema (Some (kept server_store))) kept (after_next outcomes) else follow (begins_over with_log schema None) kept (after_next outcomes)).value.after
          (if b then follow (begins_over with_log schema (Some (kept server_store))) kept (after_next outcomes) else follow (begins_over with_log schema None) kept (after_next outcomes)).kept
      by true = begins_by_lasts schema (read_apart json schema is) (open_plan server_store schema (kept server_store)) refl (after_next outcomes)
      by false = closed_stays

  pub backend_lasts : (server : Option Server) (json : Data) → IsSoundIfOpen server kept → ServerLasts (backend_step with_log server json) kept
  backend_lasts None json h outcomes = begins_under_lasts json (schema_of json) refl outcomes
  backend_lasts (Some server) json h outcomes = record { ordered = ordered; sound = h }
