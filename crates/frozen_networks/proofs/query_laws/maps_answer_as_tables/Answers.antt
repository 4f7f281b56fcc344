use Rattle.frozen_networks.proofs.QueryLemmas.{above_is_around, address_is_above, below_is_inside, count_is, longest_is_above, row_is_stored, stands_at_bits, value_is_stored}
use Rattle.frozen_networks.proofs.query_laws.maps_answer_as_tables.Goals as goal

pub returns : goal.returns
returns g c = record {
  stored = λ w number rows e r rising found. stands_at_bits w number rows rising e r found;
  row = λ w number rows net found rising is. row_is_stored w number rows rising net is found;
  value = λ w number rows net found rising is. value_is_stored w number rows rising net is found;
  below = λ w number rows net rising is. below_is_inside w number rows rising net is;
  above = λ w number rows net rising is. above_is_around w number rows rising net is;
  longest = λ w number rows net found rising is. longest_is_above w number rows rising net is found;
  address = λ w number rows n found rising fits. address_is_above w number rows rising n fits found;
  count = λ w number rows rising. count_is w number rows rising;
}
