use Rattle.nibble_map.proofs.MapLemmas.Without.{get-without_below, stored_without, without_stored, below-without_below, put_rows-walk, len-without_below, without_below-nothing}
use Rattle.nibble_map.proofs.map_laws.rest_of_a_map.Goals as goal

pub returns : goal.returns
returns g c = record {
  get = λ m p e. get-without_below p m e;
  stored = λ m p e. stored_without p m e;
  elsewhere = λ m p e. without_stored p m e;
  below = λ m p. below-without_below p m;
  put_back = λ m p. put_rows-walk p m;
  len = λ m p. len-without_below p m;
  nothing = λ m p. without_below-nothing p m;
}
