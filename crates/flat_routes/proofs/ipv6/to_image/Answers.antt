use Rattle.std.proofs.Common.{subst, sym}
use Rattle.std.specs.Net.Addr.{ipv6_bits}
use Rattle.frozen_routes.specs.Routes.{AreRowsInOrder}
use Rattle.flat_routes.proofs.TableLemmas.{numbered_order}
use Rattle.flat_routes.proofs.ipv6.to_image.Goals as goal

pub image_of-requires : goal.image_of-requires
image_of-requires c = numbered_order ipv6_bits 128 c.rows.result.now (subst (AreRowsInOrder 128 ipv6_bits) (sym c.rows.ensures.rows) c.rows.ensures.rising)
