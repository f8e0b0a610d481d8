-- A table after a row was put.
use Rattle.std.proofs.Common.{◌≡◌, ℕ, List, true, false, cond, Option, Some, bytes_eq, String, sym, ap, ◌∙◌, subst}
use Rattle.std.specs.declared.alloc.Global.{Global}
use Rattle.std.specs.BTreeMap.{BTreeMap, is_at}
use Rattle.std.specs.BTreeSet.{BTreeSet}
use Rattle.std.specs.Map.{lookup, set_value}
use Rattle.std.proofs.lemmas.Bool.{and_parts, and_from}
use Rattle.melon_wire.specs.Forms.{names_ascend}
use Rattle.melon_wire.proofs.KeyOrder.{split}
use Rattle.melon_log.specs.declared.server_row.ServerRow.{ServerRow}
use Rattle.melon_log.specs.ServerRows.{id_of, at_id}
use Rattle.melon_log.proofs.ById.{id-at_id, some_same}
use Rattle.melon_backend.specs.declared.table.Stamp.{Stamp}
use Rattle.melon_backend.specs.declared.table.ServerTable.{ServerTable}
use Rattle.melon_backend.specs.Rows.{put_row}
use Rattle.melon_backend.specs.Inside.{id_order, shown, has_place, flat, AreOwn, has_stamp, rows_in, is_ready, IsKept}
use Rattle.melon_backend.proofs.PutRows.{at_id-put}
use Rattle.melon_backend.proofs.Placed.{Climbs, ascend-shown, at-shown, own-set, has_place-set, climbs-set, shown-put}

pub ascend-rows : (t : ServerTable) → IsKept t → names_ascend id_of (rows_in t) ≡ true
ascend-rows t kept = ascend-shown t.places.entries kept.ordered kept.own

pub found : (t : ServerTable) (id : List ℕ) → IsKept t → at_id id (rows_in t) ≡ flat (lookup (is_at (id_order id)) t.places.entries)
found t id kept = at-shown id t.places.entries kept.ordered kept.own

pub row_was : (t : ServerTable) (id : List ℕ) (was : ServerRow) → IsKept t → Some was ≡ flat (lookup (is_at (id_order id)) t.places.entries) → was.id ≡ id
row_was t id was kept is = id-at_id id (rows_in t) was (found t id kept ∙ sym is)

module _ (t : ServerTable) (row : ServerRow) (kept : IsKept t) (ready : is_ready row t ≡ true) (places : BTreeMap (String Global) (Option ServerRow)) (is : places.entries ≡ set_value (is_at (id_order row.id)) t.places.entries (Some row)) where
  parts : (has_place row.id t.places.entries ≡ true) × (has_stamp row t.stamps ≡ true)
  parts = and_parts (has_place row.id t.places.entries) (has_stamp row t.stamps) ready

  pub shown_is : shown places.entries ≡ put_row row (rows_in t)
  shown_is = ap shown is ∙ shown-put row t.places.entries kept.ordered kept.own parts.0

  pub own_stamp : has_stamp row t.stamps ≡ true
  own_stamp = parts.1

  module _ (stamps : BTreeSet Stamp) (keeps : (q : ServerRow) → bytes_eq q.id row.id ≡ false → has_stamp q t.stamps ≡ true → has_stamp q stamps ≡ true) where
    pub put_kept : has_stamp row stamps ≡ true → IsKept (record { places = places; stamps = stamps })
    put_kept own = record {
      ordered = subst Climbs (sym is) (climbs-set (is_at (id_order row.id)) t.places.entries (Some row) kept.ordered);
      own = subst AreOwn (sym is) (own-set row t.places.entries kept.own);
      stamped = λ id r at.
          let here : cond (bytes_eq id row.id) (Some row) (at_id id (rows_in t)) ≡ Some r = sym (at_id-put row (rows_in t) (ascend-rows t kept) id) ∙ (sym (ap (at_id id) shown_is) ∙ at) in
          split (bytes_eq id row.id)
          (λ e. subst (λ (q : ServerRow). has_stamp q stamps ≡ true) (some_same row r (rw e at here)) own)
          (λ e. let was : at_id id (rows_in t) ≡ Some r = rw e at here in
          keeps r (ap (λ (i : List ℕ). bytes_eq i row.id) (id-at_id id (rows_in t) r was) ∙ e) (kept.stamped id r was));
    }

    pub put_keeps : (q : ServerRow) → bytes_eq q.id row.id ≡ false → is_ready q t ≡ true → is_ready q (record { places = places; stamps = stamps }) ≡ true
    put_keeps q apart has =
        let both = and_parts (has_place q.id t.places.entries) (has_stamp q t.stamps) has in
        and_from (has_place q.id places.entries) (has_stamp q stamps) (ap (has_place q.id) is ∙ (has_place-set q.id row.id t.places.entries (Some row) ∙ both.0)) (keeps q apart both.1)
