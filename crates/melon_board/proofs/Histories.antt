-- A legal history that grows by a legal entry.
use Rattle.std.proofs.Common.{◌≡◌, List, [], ◌∷◌, ◌++◌, refl, ap, sym, subst, ◌∙◌}
use Rattle.melon_schema.specs.declared.schema.TableSchema.{TableSchema}
use Rattle.melon_raw.specs.Rows.{Rows}
use Rattle.melon_change.specs.declared.history.Entry.{Entry}
use Rattle.melon_change.specs.Changes.{after_set}
use Rattle.melon_change.specs.History.{IsEntry, IsLegal, replay}
use Rattle.melon_board.specs.Stores.{SeenStore, with_entry, Continues}

pub replay-more : (rows : Rows) (es : List Entry) (e : Entry) → replay rows (es ++ e ∷ []) ≡ after_set (replay rows es) e.set
replay-more rows [] e = refl
replay-more rows (d ∷ es) e = replay-more (after_set rows d.set) es e

pub legal-more : (schema : List TableSchema) (rows : Rows) (es : List Entry) (e : Entry) → IsLegal schema rows es → IsEntry schema (replay rows es) e → IsLegal schema rows (es ++ e ∷ [])
legal-more schema rows [] e legal entry = (entry, tt)
legal-more schema rows (d ∷ es) e legal entry = (legal.0, legal-more schema (after_set rows d.set) es e legal.1 entry)

-- A legal entry of the rows now continues the history.
pub continued : (opening : Rows) (store : SeenStore) (e : Entry) → IsEntry store.schema.tables store.rows e → Continues opening store → Continues opening (with_entry store e)
continued opening store e entry so_far = record {
  legal = legal-more store.schema.tables opening store.entries e so_far.legal (subst (λ (rows : Rows). IsEntry store.schema.tables rows e) (sym so_far.replayed) entry);
  replayed = replay-more opening store.entries e ∙ ap (λ (rows : Rows). after_set rows e.set) so_far.replayed;
}
