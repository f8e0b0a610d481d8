use Rattle.melon_rows.proofs.servers.push.Goals as goal

pub push-requires : goal.push-requires
push-requires g c = c.read_changes_can_be_pushed.ensures _ _ c.in_ok-changes.ensures.changes
