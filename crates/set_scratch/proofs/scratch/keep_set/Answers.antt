use Rattle.std.proofs.Common.{arith}
use Rattle.set_scratch.proofs.Found.{kept_written}
use Rattle.set_scratch.proofs.scratch.keep_set.Goals as goal

pub returns-clause-kept : goal.returns-clause-kept
returns-clause-kept c =
    let set = c.args.set.now in
    (kept_written c.written_reads_back.ensures c.fill_set-len.new.into c.args.octets.now c.front.result.now
    c.find_parts.new.starts.items c.fill_set-len.result _ c.find_parts.result set
    c.fill_set-len.ensures.end c.fill_set-len.ensures.filled c.requires.size
    (omega (arith, c.requires.room, c.find_parts.ensures.capacity)) c.front.ensures
    c.well_formed-2.ensures c.requires.spelling (c.find_parts.ensures.places set)).0

pub returns-clause-held : goal.returns-clause-held
returns-clause-held c =
    let set = c.args.set.now in
    (kept_written c.written_reads_back.ensures c.fill_set-len.new.into c.args.octets.now c.front.result.now
    c.find_parts.new.starts.items c.fill_set-len.result _ c.find_parts.result set
    c.fill_set-len.ensures.end c.fill_set-len.ensures.filled c.requires.size
    c.requires.room c.front.ensures c.well_formed-2.ensures c.requires.spelling
    (c.find_parts.ensures.places set)).1
