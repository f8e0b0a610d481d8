use Rattle.std.proofs.Common.{◌+◌, ap, length}
use Rattle.melon_outside.proofs.Sound.{sound_then, sound_count, sound_never}
use Rattle.melon_outside.proofs.duplex.MemoryConnDuplex.read.Goals as goal

pub returns-clause-sound_stays : goal.returns-clause-sound_stays
returns-clause-sound_stays c = rw (← c.self.view_is) (sound_then c.self.inside.source c.read.new.self (length c.args.into.now) c.read.ensures.moved)

pub returns-clause-sound_count : goal.returns-clause-sound_count
returns-clause-sound_count c = rw (← c.self.view_is) (λ h. ap (λ n. n + c.self.inside.sink.faults) (sound_count c.self.inside.source c.read.new.self (length c.args.into.now) c.read.ensures.moved h))

pub returns-clause-sound_never : goal.returns-clause-sound_never
returns-clause-sound_never c = rw (← c.self.view_is) (sound_never c.self.inside.source c.read.result c.read.ensures.planned)
