-- What is added stands behind what was there.
use Rattle.std.proofs.Common.{rules, ◌≡◌, ◌++◌, length, ap, sym, subst, ◌∙◌, arith}
use Rattle.std.specs.Int.{w32, to_le_bytes}
use Rattle.flat_tries.specs.ValueImages.{StandsCounted}
use Rattle.flat_tries.proofs.ValueLemmas.{added_counted, stands_new}
use Rattle.flat_tries.proofs.places.put_value.Goals as goal
use Rattle.flat_tries.proofs.places.put_value.Goals.{In_ok-extend_from_slice-2}

-- the bytes of the value
put_is : (g : _) (c : In_ok-extend_from_slice-2 g) → c.deref.result.now ≡ g.V.FileItem.file_bytes c.args.value.now
put_is g c = c.deref.ensures.value ∙ c.in_ok-append_to.ensures.bytes ∙ ap (λ l. l ++ g.V.FileItem.file_bytes c.args.value.now) c.clear.ensures.items

-- how many there are
count_is : (g : _) (c : In_ok-extend_from_slice-2 g) → c.in-Ok.count ≡ length (g.V.FileItem.file_bytes c.args.value.now)
count_is g c = omega (arith, c.in-Ok.ensures.1, c.len.ensures, c.deref.ensures.len, ap length (put_is g c))

pub returns-clause-bytes : goal.returns-clause-bytes
returns-clause-bytes g c =
    added_counted c.args.own.now.items c.to_le_bytes.result c.extend_from_slice.new.self.items (g.V.FileItem.file_bytes c.args.value.now) c.deref.result.now c.extend_from_slice-2.new.self.items
    (c.to_le_bytes.ensures ∙ ap (to_le_bytes w32) (count_is g c)) c.in_ok-extend_from_slice.ensures.items c.in_ok-extend_from_slice-2.ensures.items (put_is g c)

pub returns-clause-value : goal.returns-clause-value
returns-clause-value g c =
    let place : c.len-place.result ≡ length c.args.own.now.items = search rules in
    record {
      item = c.in_ok-append_to.ensures.item;
      stands = subst (λ p. StandsCounted c.extend_from_slice-2.new.self.items p (g.V.FileItem.file_bytes c.args.value.now)) (sym place)
          (stands_new c.args.own.now.items (g.V.FileItem.file_bytes c.args.value.now) c.extend_from_slice-2.new.self.items (omega (arith, c.in-Ok.ensures.0, c.in-Ok.ensures.1, count_is g c)) (returns-clause-bytes g c));
    }
