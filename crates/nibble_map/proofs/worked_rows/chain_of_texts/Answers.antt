use Rattle.nibble_map.proofs.PointLemmas.Chain.{inserted-chain, points-chain, footprint-chain}
use Rattle.nibble_map.proofs.worked_rows.chain_of_texts.Goals as goal

pub returns : goal.returns
returns c = record { inserted = inserted-chain; points = points-chain; footprint = footprint-chain; thousand = footprint-chain 1000 }
