use Rattle.std.proofs.Common.{List, ◌+◌, subst, ap, ◌∙◌, arith}
use Rattle.std.specs.Vec.{vec_len, vec_capacity}
use Rattle.std.specs.Vec.Iter.{into_iter_items}
use Rattle.melon_observe.specs.declared.patching.Patch.{Patch}
use Rattle.melon_observe.specs.Gap.{whole}
use Rattle.melon_observe.specs.Patches.{all_patched}
use Rattle.melon_observe.specs.Members.{is_ascending}
use Rattle.melon_observe.proofs.Keeping.{ascending-patched}
use Rattle.melon_observe.proofs.Patched.{Patching}
use Rattle.melon_observe.proofs.patching.patch_all.Goals as goal

pub patch_one-requires-clause-room : goal.patch_one-requires-clause-room
patch_one-requires-clause-room c =
    let l = c.loop-patch in
    let so_far =
    subst (λ (ps : List Patch). Patching c.args.members.now.items c.args.patches.items l.members.items l.behind.items ps (vec_len l.members + vec_len l.behind) (vec_capacity l.members) (vec_capacity l.behind)) c.in-Some.ensures.steps.0 l.invariant.0 in
    omega (arith, so_far.room)

pub patch_one-requires-clause-room_behind : goal.patch_one-requires-clause-room_behind
patch_one-requires-clause-room_behind c =
    let l = c.loop-patch in
    let so_far =
    subst (λ (ps : List Patch). Patching c.args.members.now.items c.args.patches.items l.members.items l.behind.items ps (vec_len l.members + vec_len l.behind) (vec_capacity l.members) (vec_capacity l.behind)) c.in-Some.ensures.steps.0 l.invariant.0 in
    omega (arith, so_far.room_behind)

pub loop-patch-preserved : goal.loop-patch-preserved
loop-patch-preserved c =
    let l = c.loop-patch in
    let patch = c.in-Some.patch in
    let left = into_iter_items c.next.new.self in
    let so_far =
    subst (λ (ps : List Patch). Patching c.args.members.now.items c.args.patches.items l.members.items l.behind.items ps (vec_len l.members + vec_len l.behind) (vec_capacity l.members) (vec_capacity l.behind)) c.in-Some.ensures.steps.0 l.invariant.0 in (
      record {
        done = ap (λ ms. all_patched ms left) c.patch_one.ensures.patched ∙ so_far.done;
        ascending = ap is_ascending c.patch_one.ensures.patched ∙ ascending-patched patch (whole l.members.items l.behind.items) so_far.ascending;
        room = omega (arith, so_far.room, c.patch_one.ensures.len, c.patch_one.ensures.capacity);
        room_behind = omega (arith, so_far.room_behind, c.patch_one.ensures.len, c.patch_one.ensures.capacity_behind);
      },
      c.patch_one.ensures.capacity_behind ∙ l.invariant.1,
    )
