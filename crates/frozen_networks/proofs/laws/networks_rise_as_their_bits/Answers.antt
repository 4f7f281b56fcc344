use Rattle.frozen_networks.proofs.OrderLemmas.{before_earlier, earlier_before, rising_rows, rows_of_networks, rows_rise}
use Rattle.frozen_networks.proofs.laws.networks_rise_as_their_bits.Goals as goal

pub returns : goal.returns
returns g c = record {
  earlier = λ w m k n j p q. (earlier_before w m k n j p q, before_earlier w m k n j p q);
  rising = λ w number rows. (λ h. (rows_of_networks w number rows h, rows_rise w number rows h), λ h. rising_rows w number rows h.0 h.1);
}
