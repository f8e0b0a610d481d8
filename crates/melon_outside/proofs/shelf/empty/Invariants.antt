use Rattle.std.proofs.Common.{◌≡◌, drop}
use Rattle.melon_outside.specs.declared.kept.KeptKey.{KeptKey}
use Rattle.melon_outside.specs.Ascending.{without_keys}
use Rattle.melon_outside.specs.Kept.{key_cmp, key_of}
use Rattle.melon_outside.specs.Shelved.{shown, has_place}
use Rattle.melon_outside.proofs.shelf.empty.Given as goal

abbrev pub invariant-loop-key : goal.invariant-loop-key
invariant-loop-key l = record {
  shown : without_keys key_cmp key_of (drop l.key-index l.keys) (shown l.places.entries) ≡ without_keys key_cmp key_of l.keys (shown l.initial.places.entries);
  keeps : (q : KeptKey) → has_place q l.places.entries ≡ has_place q l.initial.places.entries;
}
