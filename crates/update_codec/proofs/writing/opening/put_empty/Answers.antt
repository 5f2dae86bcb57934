use Rattle.attr_codec.proofs.AppendedLemmas.{appended_more}
use Rattle.update_codec.proofs.writing.opening.put_empty.Goals as goal

pub returns-in-Ipv4 : goal.returns-in-Ipv4
returns-in-Ipv4 c = λ caps. rw c.in-Ipv4.is c.put_frame.ensures

pub returns-in-Ipv6 : goal.returns-in-Ipv6
returns-in-Ipv6 c = λ caps. rw c.in-Ipv6.is (appended_more _ _ _ _ _ c.put_frame-in-Ipv6.ensures
    c.append_unreach.ensures)
