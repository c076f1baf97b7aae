-- Where the parts of a reply stand.
use Rattle.std.specs.Prelude.{ℕ, ◌-◌, ◌*◌, List, drop}
use Rattle.paper.specs.Kinds.{reply_offset, rest_place, word_width, begun_members}
use Rattle.paper.specs.Records.{kind_of}
use Rattle.paper.specs.Replies.{Reply}
use Rattle.paper.specs.declared.Reading.{Reading}
use Rattle.paper.specs.Ledger.{read_begun, read_tail, set_words}

-- what `read_reply` reads of an accepted begin, and of the kinds that hold a tail alone
abbrev pub started_in : Reading → List ℕ → Reply
started_in st a =
    Reply.Started (read_begun (drop rest_place a))
    (read_tail st (drop (word_width * set_words (drop rest_place a)) (drop begun_members (drop rest_place a))))

abbrev pub done_in : Reading → List ℕ → Reply
done_in st a = Reply.Done (kind_of a - reply_offset) (read_tail st (drop rest_place a))
