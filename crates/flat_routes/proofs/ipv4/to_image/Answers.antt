use Rattle.std.proofs.Common.{subst, sym}
use Rattle.std.specs.Net.Addr.{ipv4_bits}
use Rattle.frozen_routes.specs.Routes.{AreRowsInOrder}
use Rattle.flat_routes.proofs.TableLemmas.{numbered_order}
use Rattle.flat_routes.proofs.ipv4.to_image.Goals as goal

pub image_of-requires : goal.image_of-requires
image_of-requires c = numbered_order ipv4_bits 32 c.rows.result.now (subst (AreRowsInOrder 32 ipv4_bits) (sym c.rows.ensures.rows) c.rows.ensures.rising)
