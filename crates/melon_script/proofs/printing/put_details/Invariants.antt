use Rattle.std.proofs.Common.{◌≡◌, ◌++◌, drop}
use Rattle.melon_script.specs.Printed.{details_text}
use Rattle.melon_script.proofs.printing.put_details.Given as goal

abbrev pub invariant-loop-detail : goal.invariant-loop-detail
invariant-loop-detail l = l.out.items ++ details_text (drop l.detail-index l.details) ≡ l.fn.out.items ++ details_text l.details
