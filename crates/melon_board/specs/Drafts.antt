-- What a change set asks of the keeper and adds to the sizes, gathered change by change.
use Rattle.std.specs.Prelude.{ℕ, ◌+◌, List, [], ◌∷◌, ◌++◌, false, Option, Some, None, Result, Ok, option_to_list}
use Rattle.melon_schema.specs.Faults.{◌>>=◌}
use Rattle.melon_schema.specs.declared.schema.TableSchema.{TableSchema}
use Rattle.melon_change.specs.declared.change.Change.{Change}
use Rattle.melon_outside.specs.declared.kept.KeptBatch.{KeptBatch}
use Rattle.melon_board.specs.declared.draft.Draft.{Draft}
use Rattle.melon_board.specs.declared.draft.Sizes.{Sizes}
use Rattle.melon_board.specs.declared.fault.WriteFault.{WriteFault}
use Rattle.melon_board.specs.declared.fault.WriteFault.TheVariants.{StoreFull, SessionFull}
use Rattle.melon_board.specs.Sizes.{before_bytes, after_bytes}
use Rattle.melon_board.specs.Batches.{removal, filing, values_batch}
use Rattle.melon_board.specs.Plans.{within_limit}

abbrev pub no_draft : Draft
no_draft = record { batch = values_batch []; before = 0; after = 0 }

abbrev pub with_change : List TableSchema → Draft → Change → Draft
with_change schema d c = record {
  batch = record {
    clear = d.batch.clear;
    removes = d.batch.removes ++ option_to_list (removal schema c);
    puts = d.batch.puts ++ option_to_list (filing schema c);
    values = d.batch.values;
  };
  before = d.before + before_bytes schema c;
  after = d.after + after_bytes schema c;
}

abbrev pub drafted : List TableSchema → Draft → List Change → Draft
drafted schema d [] = d
drafted schema d (c ∷ cs) = drafted schema (with_change schema d c) cs

-- the two sizes, where they are within their limits
unfoldable pub sizes_within : ℕ → ℕ → Result Sizes WriteFault
sizes_within stored journal = do
  rows ← within_limit StoreFull stored
  entries ← within_limit SessionFull journal
  Ok (record { stored = stored; journal = journal })
