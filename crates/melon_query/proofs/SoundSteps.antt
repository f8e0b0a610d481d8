-- The equations of `is_sound`, one for each kind of condition.
use Rattle.std.proofs.Common.{◌≡◌, ℕ, List, [], ◌∷◌, length, Bool, false, ◌&&◌, nat_lt, map, ap, ◌∙◌, refl}
use Rattle.melon_schema.specs.declared.schema.ColumnSchema.{ColumnSchema}
use Rattle.melon_schema.specs.declared.schema.TableSchema.{TableSchema}
use Rattle.melon_raw.specs.Rows.{table_at}
use Rattle.melon_query.specs.Sound.{is_comparison, is_join, is_sound, sound_step, each_sound, all_sound}
use Rattle.melon_query.specs.declared.query.Compare.{Compare}
use Rattle.melon_query.specs.declared.query.Join.{Join}
use Rattle.melon_query.specs.declared.query.Cond.{Cond}
use Rattle.melon_query.specs.declared.query.Cond.TheVariants.{rolls-Compare, rolls-All, rolls-Any, rolls-On}
use Rattle.melon_query.specs.declared.query.Cond.TheVariants as cond
use Rattle.melon_query.specs.declared.query.Cond.TheOpen.{Cond-F}
use Rattle.melon_query.specs.declared.query.Cond.TheFolds.{fold-roll-Cond}
use Rattle.melon_query.specs.declared.query.Cond.TheViews.{roll-Cond}
use denote.Hole.Carrier.{roll}

abbrev Test : Type 0
Test = List ColumnSchema → Bool → Bool

module _ (tables : List TableSchema) (own : List ColumnSchema) where
  each_sound-map : (ps : List Cond) (columns : List ColumnSchema) (may : Bool) → each_sound (map (is_sound tables own) ps) columns may ≡ all_sound tables own ps columns may
  each_sound-map [] columns may = refl
  each_sound-map (p ∷ ps) columns may = ap (λ b. is_sound tables own p columns may && b) (each_sound-map ps columns may)

  module _ (columns : List ColumnSchema) (may : Bool) where
    pub is_sound-Compare : (by : Compare) → is_sound tables own (cond.Compare by) columns may ≡ is_comparison columns by
    unfolding roll-Cond roll
    is_sound-Compare by = ap (λ c. is_sound tables own c columns may) (rolls-Compare by) ∙ ap (λ f. f columns may) (fold-roll-Cond Test (sound_step tables own) (Cond-F.Compare by))

    pub is_sound-All : (ps : List Cond) → is_sound tables own (cond.All ps) columns may ≡ all_sound tables own ps columns may
    unfolding roll-Cond roll
    is_sound-All ps =
        ap (λ c. is_sound tables own c columns may) (rolls-All ps) ∙ ap (λ f. f columns may) (fold-roll-Cond Test (sound_step tables own) (Cond-F.All ps)) ∙ each_sound-map ps columns may

    pub is_sound-Any : (ps : List Cond) → is_sound tables own (cond.Any ps) columns may ≡ all_sound tables own ps columns may
    unfolding roll-Cond roll
    is_sound-Any ps =
        ap (λ c. is_sound tables own c columns may) (rolls-Any ps) ∙ ap (λ f. f columns may) (fold-roll-Cond Test (sound_step tables own) (Cond-F.Any ps)) ∙ each_sound-map ps columns may

    pub is_sound-On : (table : ℕ) (join : Join) (ps : List Cond) → is_sound tables own (cond.On table join ps) columns may
        ≡ may && (nat_lt table (length tables) && (is_join own (table_at tables table).columns join && all_sound tables own ps (table_at tables table).columns false))
    unfolding roll-Cond roll
    is_sound-On table join ps =
        ap (λ c. is_sound tables own c columns may) (rolls-On table join ps) ∙ ap (λ f. f columns may) (fold-roll-Cond Test (sound_step tables own) (Cond-F.On table join ps))
        ∙ ap (λ b. may && (nat_lt table (length tables) && (is_join own (table_at tables table).columns join && b))) (each_sound-map ps (table_at tables table).columns false)
