use Rattle.std.proofs.Common.{arith, ◌∙◌}
use Rattle.set_scratch.proofs.Found.{respelled, kept_front}
use Rattle.set_scratch.proofs.scratch.keep_octets.Goals as goal

pub returns-clause-kept : goal.returns-clause-kept
returns-clause-kept c =
    let is = c.requires.spelled in
    let spelled = respelled (c.front.ensures ∙ c.copy_all-len.ensures.there is.1 is.2) is.3 in
    (kept_front c.written_reads_back.ensures c.copy_all-len.new.into c.front.result.now
    c.find_parts.new.starts.items c.copy_all-len.result _ c.find_parts.result is.0
    (c.copy_all-len.ensures.size ∙ c.requires.size)
    (omega (arith, c.requires.room, c.find_parts.ensures.capacity)) c.copy_all-len.ensures.within
    c.front.ensures spelled (c.find_parts.ensures.places is.0 spelled)).0

pub returns-clause-held : goal.returns-clause-held
returns-clause-held c = λ set spelling there is.
    let spelled = respelled (c.front.ensures ∙ c.copy_all-len.ensures.there spelling there) is in
    (kept_front c.written_reads_back.ensures c.copy_all-len.new.into c.front.result.now
    c.find_parts.new.starts.items c.copy_all-len.result _ c.find_parts.result set
    (c.copy_all-len.ensures.size ∙ c.requires.size)
    c.requires.room c.copy_all-len.ensures.within
    c.front.ensures spelled (c.find_parts.ensures.places set spelled)).1
