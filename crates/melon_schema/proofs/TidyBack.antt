-- A tidy value is read back from its text, and members that are put in one after another are tidy.
use Rattle.std.proofs.Common.{◌≡◌, ◌≤◌, ℕ, suc, max, pos, negsuc, List, [], Some, option_map, nat_cmp, refl, sym, ap, subst, ◌∙◌, append-nil, arith}
use Rattle.std.specs.Prelude.{option_and_then}
use Rattle.std.specs.Ordering.{match_ordering, ordering_reverse}
use Rattle.std.proofs.lemmas.Cmp.{nat_list_cmp_total}
use Rattle.std.specs.Cmp.Lexicographic.{slice_cmp}
use Rattle.std.specs.declared.cmp.Ordering.{Ordering}
use Rattle.std.specs.declared.cmp.Ordering.TheVariants.{Less, Equal, Greater}
use Rattle.json.specs.Json as json
use Rattle.json.specs.Tree as tree
use Rattle.json.specs.Print.{IsNumber}
use Rattle.json.proofs.Printed.Decimals.{IsNumber-decimal, IsNumber-signed_decimal}
use Rattle.json.proofs.Printed.Tokens.{tokens-print}
use Rattle.json.proofs.Printed.Trees.{value-json_tokens, ArePrintable-json_tokens}
use Rattle.serde_json.specs.Data.{Num, unsigned, negative, float, Data, null, boolean, number, string, array, object, Items, no_items, item, Members, no_members, member, put, depth, items_depth, members_depth}
use Rattle.serde_json.specs.Read.{read, max_depth, of_json, of_items, of_members, number_of}
use Rattle.serde_json.specs.Written.{compact_text, number_text, outline, items_outline, members_outline}
use Rattle.serde_json.proofs.Numbers.{number_of-decimal, number_of-negative}
use Rattle.serde_json.proofs.Texts.{print-outline}
use Rattle.melon_schema.specs.Tidy.{IsWhole, AreAbove, IsTidy, AreTidy, HasTidy}

number_back : (n : Num) → IsWhole n → number_of (number_text n) ≡ Some n
number_back (unsigned n) h = number_of-decimal n h
number_back (negative (pos n)) h = absurd h
number_back (negative (negsuc n)) h = number_of-negative n h
number_back (float x) h = absurd h

number_is : (n : Num) → IsWhole n → IsNumber (number_text n)
number_is (unsigned n) h = IsNumber-decimal n h
number_is (negative (pos n)) h = absurd h
number_is (negative (negsuc n)) h = IsNumber-signed_decimal (negsuc n) h
number_is (float x) h = absurd h

-- ---- members, one after another

joined : Members → Members → Members
joined no_members ms = ms
joined (member k d more) ms = member k d (joined more ms)

joined-none : (ms : Members) → joined ms no_members ≡ ms
unfolding joined
joined-none no_members = refl
joined-none (member k d ms) = ap (member k d) (joined-none ms)

joined_one : (found : Members) (k : List ℕ) (d : Data) (ms : Members) → joined (joined found (member k d no_members)) ms ≡ joined found (member k d ms)
unfolding joined
joined_one no_members k d ms = refl
joined_one (member l e found) k d ms = ap (member l e) (joined_one found k d ms)

-- the key is above each of these
Tops : List ℕ → Members → Type 0
Tops k no_members = Unit {0}
Tops k (member l d ms) = (slice_cmp nat_cmp k l ≡ Greater) × Tops k ms

-- each key of the second is above each of the first
Follows : Members → Members → Type 0
Follows found no_members = Unit {0}
Follows found (member k d ms) = Tops k found × Follows found ms

put_end : (k : List ℕ) (d : Data) (found : Members) → Tops k found → put k d found ≡ joined found (member k d no_members)
unfolding joined Tops
put_end k d no_members h = refl
put_end k d (member l e found) h = ap (λ o. match_ordering o (member k d (member l e found)) (member l d found) (member l e (put k d found))) h.0 ∙ ap (member l e) (put_end k d found h.1)

tops_joined : (k l : List ℕ) (d : Data) (found : Members) → Tops k found → slice_cmp nat_cmp k l ≡ Greater → Tops k (joined found (member l d no_members))
unfolding joined Tops
tops_joined k l d no_members h g = (g, tt)
tops_joined k l d (member m e found) h g = (h.0, tops_joined k l d found h.1 g)

follows_joined : (l : List ℕ) (d : Data) (found ms : Members) → Follows found ms → AreAbove l ms → Follows (joined found (member l d no_members)) ms
unfolding Follows
follows_joined l d found no_members h a = tt
follows_joined l d found (member k e ms) h a = (tops_joined k l d found h.0 a.0, follows_joined l d found ms h.1 a.1)

follows_none : (ms : Members) → Follows no_members ms
unfolding Follows Tops
follows_none no_members = tt
follows_none (member k d ms) = (tt, follows_none ms)

-- ---- reading an outline

mutual
  unfolding joined Follows

  back : (d : Data) → IsTidy d → of_json (outline d) ≡ Some d
  back null h = refl
  back (boolean b) h = refl
  back (number n) h = ap (option_map number) (number_back n h)
  back (string s) h = refl
  back (array ds) h = ap (option_map array) (items_back ds h)
  back (object ms) h = ap (option_map object) (members_back ms no_members h (follows_none ms))

  items_back : (ds : Items) → AreTidy ds → of_items (items_outline ds) ≡ Some ds
  items_back no_items h = refl
  items_back (item d ds) h = ap (λ o. option_and_then (λ e. option_map (item e) (of_items (items_outline ds))) o) (back d h.0) ∙ ap (option_map (item d)) (items_back ds h.1)

  members_back : (ms found : Members) → HasTidy ms → Follows found ms → of_members (members_outline ms) found ≡ Some (joined found ms)
  members_back no_members found h f = ap Some (sym (joined-none found))
  members_back (member k d ms) found h f =
      ap (λ o. option_and_then (λ e. of_members (members_outline ms) (put k e found)) o) (back d h.1)
      ∙ ap (of_members (members_outline ms)) (put_end k d found f.0)
      ∙ members_back ms (joined found (member k d no_members)) h.2 (follows_joined k d found ms f.1 h.0)
      ∙ ap Some (joined_one found k d ms)

mutual
  numbers : (d : Data) → IsTidy d → tree.HasNumbers (outline d)
  numbers null h = tt
  numbers (boolean b) h = tt
  numbers (number n) h = number_is n h
  numbers (string s) h = tt
  numbers (array ds) h = items_numbers ds h
  numbers (object ms) h = members_numbers ms h

  items_numbers : (ds : Items) → AreTidy ds → tree.ItemsHaveNumbers (items_outline ds)
  items_numbers no_items h = tt
  items_numbers (item d ds) h = (numbers d h.0, items_numbers ds h.1)

  members_numbers : (ms : Members) → HasTidy ms → tree.MembersHaveNumbers (members_outline ms)
  members_numbers no_members h = tt
  members_numbers (member k d ms) h = (numbers d h.1, members_numbers ms h.2)

mutual
  same_depth : (d : Data) → tree.depth (outline d) ≡ depth d
  same_depth null = refl
  same_depth (boolean b) = refl
  same_depth (number n) = refl
  same_depth (string s) = refl
  same_depth (array ds) = ap suc (same_items_depth ds)
  same_depth (object ms) = ap suc (same_members_depth ms)

  same_items_depth : (ds : Items) → tree.items_depth (items_outline ds) ≡ items_depth ds
  same_items_depth no_items = refl
  same_items_depth (item d ds) = ap (λ n. max n (tree.items_depth (items_outline ds))) (same_depth d) ∙ ap (max (depth d)) (same_items_depth ds)

  same_members_depth : (ms : Members) → tree.members_depth (members_outline ms) ≡ members_depth ms
  same_members_depth no_members = refl
  same_members_depth (member k d ms) = ap (λ n. max n (tree.members_depth (members_outline ms))) (same_depth d) ∙ ap (max (depth d)) (same_members_depth ms)

-- what is written for a tidy value is read as that value
pub read_compact : (d : Data) → IsTidy d → depth d ≤ max_depth → read (compact_text d) ≡ Some d
read_compact d h shallow =
    ap (λ (text : List ℕ). read text) (sym (print-outline d))
    ∙ ap (λ ts. option_and_then of_json (option_and_then (λ p. json.if_last p.0 p.1) (json.value max_depth ts)))
    (tokens-print (tree.json_tokens (outline d)) (ArePrintable-json_tokens (outline d) (numbers d h)) ∙ sym (append-nil (tree.json_tokens (outline d))))
    ∙ ap (λ o. option_and_then of_json (option_and_then (λ p. json.if_last p.0 p.1) o)) (value-json_tokens (outline d) max_depth [] (subst (λ n. n ≤ max_depth) (sym (same_depth d)) shallow))
    ∙ back d h

-- ---- a member that is put in

below_above : (k l : List ℕ) → slice_cmp nat_cmp k l ≡ Less → slice_cmp nat_cmp l k ≡ Greater
below_above k l is = nat_list_cmp_total.antisymm l k ∙ ap ordering_reverse is

above_below : (k l : List ℕ) → slice_cmp nat_cmp k l ≡ Greater → slice_cmp nat_cmp l k ≡ Less
above_below k l is = nat_list_cmp_total.antisymm l k ∙ ap ordering_reverse is

above_trans : (k l m : List ℕ) → slice_cmp nat_cmp l k ≡ Greater → slice_cmp nat_cmp m l ≡ Greater → slice_cmp nat_cmp m k ≡ Greater
above_trans k l m h g = below_above k m (nat_list_cmp_total.trans k l m (above_below l k h) (above_below m l g))

are_above-below : (k l : List ℕ) (ms : Members) → slice_cmp nat_cmp l k ≡ Greater → AreAbove l ms → AreAbove k ms
are_above-below k l no_members h a = tt
are_above-below k l (member m d ms) h a = (above_trans k l m h a.0, are_above-below k l ms h a.1)

are_above-put_at : (o : Ordering) (l k m : List ℕ) (d e : Data) (ms : Members) → AreAbove l (member m e ms) → slice_cmp nat_cmp k l ≡ Greater → AreAbove l (put k d ms)
    → AreAbove l (match_ordering o (member k d (member m e ms)) (member m d ms) (member m e (put k d ms)))
are_above-put_at Less l k m d e ms a h later = (h, a)
are_above-put_at Equal l k m d e ms a h later = a
are_above-put_at Greater l k m d e ms a h later = (a.0, later)

are_above-put : (l k : List ℕ) (d : Data) (ms : Members) → AreAbove l ms → slice_cmp nat_cmp k l ≡ Greater → AreAbove l (put k d ms)
are_above-put l k d no_members a h = (h, tt)
are_above-put l k d (member m e ms) a h = are_above-put_at _ l k m d e ms a h (are_above-put l k d ms a.1 h)

has_tidy-put_at : (o : Ordering) (k l : List ℕ) (d e : Data) (ms : Members) → slice_cmp nat_cmp k l ≡ o → IsTidy d → HasTidy (member l e ms) → HasTidy (put k d ms)
    → HasTidy (match_ordering o (member k d (member l e ms)) (member l d ms) (member l e (put k d ms)))
has_tidy-put_at Less k l d e ms is t h later = ((below_above k l is, are_above-below k l ms (below_above k l is) h.0), t, h)
has_tidy-put_at Equal k l d e ms is t h later = (h.0, t, h.2)
has_tidy-put_at Greater k l d e ms is t h later = (are_above-put l k d ms h.0 is, h.1, later)

pub has_tidy-put : (k : List ℕ) (d : Data) (ms : Members) → IsTidy d → HasTidy ms → HasTidy (put k d ms)
has_tidy-put k d no_members t h = (tt, t, tt)
has_tidy-put k d (member l e ms) t h = has_tidy-put_at _ k l d e ms refl t h (has_tidy-put k d ms t h.2)

put_depth_at : (o : Ordering) (k l : List ℕ) (d e : Data) (ms : Members) (n : ℕ) → depth d ≤ n → members_depth (member l e ms) ≤ n → members_depth (put k d ms) ≤ n
    → members_depth (match_ordering o (member k d (member l e ms)) (member l d ms) (member l e (put k d ms))) ≤ n
put_depth_at Less k l d e ms n h all later = omega (arith, h, all)
put_depth_at Equal k l d e ms n h all later = omega (arith, h, all)
put_depth_at Greater k l d e ms n h all later = omega (arith, later, all)

-- the members nest no deeper than before and what is put in
pub members_depth-put : (k : List ℕ) (d : Data) (ms : Members) (n : ℕ) → depth d ≤ n → members_depth ms ≤ n → members_depth (put k d ms) ≤ n
members_depth-put k d no_members n h all = omega (arith, h, all)
members_depth-put k d (member l e ms) n h all = put_depth_at _ k l d e ms n h all (members_depth-put k d ms n h (omega (arith, all)))
