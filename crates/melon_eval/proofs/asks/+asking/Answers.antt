use Rattle.std.proofs.Common.{refl}
use Rattle.melon_eval.proofs.Askings.{on_more}
use Rattle.melon_eval.proofs.asks.+asking.Goals as goal

pub add_asks-returns-in_ok-push-in-On : goal.add_asks-returns-in_ok-push-in-On
add_asks-returns-in_ok-push-in-On t c =
    on_more c.args.asks.now.items c.push.new.self.items c.in-On.table c.in-On.join c.args.cond.now (record { table = c.in-On.table; conds = c.as_slice-in-On.result }) c.in-On.conds c.in-On.is c.in_ok-push-in-On.ensures.items refl c.as_slice-in-On.ensures
