use Rattle.std.proofs.Common.{length, ap, arith}
use Rattle.set_store.proofs.Whole.{copied}
use Rattle.set_store.proofs.reads.octets_at.Goals as goal

pub returns : goal.returns
returns c octets holds =
    let size = c.size_at.ensures octets holds in
    let ok = c.in_ok-octets.octets.ok.0 in
    let long = c.in_ok-octets.ensures.length in
    let slice = c.as_mut_slice.ensures.value in
    copied c.in_ok-octets.octets.len octets c.as_mut_slice.result.now c.copy_at.new.into _
    (omega (arith, size, ok, long)) (omega (arith, size, long, ap length slice))
    (c.copy_at.ensures octets holds)
