use Rattle.nibble_map.proofs.MapLemmas.Rebuilt.{put_rows-entries}
use Rattle.nibble_map.proofs.map_laws.entries_rebuild_the_map.Goals as goal

pub returns : goal.returns
returns g c = put_rows-entries
