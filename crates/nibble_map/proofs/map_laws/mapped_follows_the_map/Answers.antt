use Rattle.std.proofs.Common.{not}
use Rattle.nibble_map.specs.Lists.{is_prefix}
use Rattle.nibble_map.proofs.MapLemmas.Mapped.{entries-mapped, len-mapped, get-mapped, mapped_stored, mapped-empty, mapped-insert, mapped-remove, mapped-retain_keys}
use Rattle.nibble_map.proofs.map_laws.mapped_follows_the_map.Goals as goal

pub returns : goal.returns
returns g c = record {
  entries = entries-mapped;
  len = len-mapped;
  get = get-mapped;
  stored = mapped_stored;
  empty = mapped-empty;
  insert = mapped-insert;
  remove = mapped-remove;
  below = λ f m p. mapped-retain_keys f m (is_prefix p);
  rest = λ f m p. mapped-retain_keys f m (λ e. not (is_prefix p e));
}
