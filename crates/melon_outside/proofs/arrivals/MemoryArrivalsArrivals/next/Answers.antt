use Rattle.std.proofs.Common.{}
use Rattle.melon_outside.specs.Conns.{IsSoundConn}
use Rattle.melon_outside.proofs.Sound.{rest_all}
use Rattle.melon_outside.proofs.arrivals.MemoryArrivalsArrivals.next.Goals as goal

pub returns-in-Some-clause-sound_stays : goal.returns-in-Some-clause-sound_stays
returns-in-Some-clause-sound_stays c = rw (← c.self.view_is) (rest_all IsSoundConn c.in-Some.conn c.self.inside.coming.rest.items c.next.new.self.rest.items c.in-Some.ensures.items)
