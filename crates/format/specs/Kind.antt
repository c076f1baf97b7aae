-- The kinds of records, and of the replies to them.
use Rattle.std.specs.Prelude.{ℕ, ◌≡◌, List, Bool, true, false, ◌&&◌, leb, Option, MatchOption, Result, MatchResult}
use Rattle.format.specs.declared.kinds.Kind.{Kind}
use Rattle.format.specs.declared.kinds.Kind.TheVariants.{Configure, Begin, Lists, Finish, Drain, Discard, End, Abandon}
use Rattle.format.specs.declared.kinds.UnknownKind.{UnknownKind}
use Rattle.paper.specs.Kinds.{configure_kind, begin_kind, lists_kind, finish_kind, drain_kind, discard_kind, end_kind}
use Rattle.paper.specs.Kinds.{abandon_kind, reply_to}
use Rattle.paper.specs.Records.{kind_of, well_formed}

-- "1 configure", "2 begin", "3 lists", "4 finish, 5 drain, 6 discard, 7 end of sequence, 8 abandon"
abbrev pub number_of : Kind → ℕ
number_of Configure = configure_kind
number_of Begin = begin_kind
number_of Lists = lists_kind
number_of Finish = finish_kind
number_of Drain = drain_kind
number_of Discard = discard_kind
number_of End = end_kind
number_of Abandon = abandon_kind

-- whether a number is that of a kind, or of a reply to one
abbrev pub is_number : ℕ → Bool
is_number n = leb configure_kind n && leb n abandon_kind

abbrev pub is_reply : ℕ → Bool
is_reply n = leb (reply_to configure_kind) n && leb n (reply_to abandon_kind)

-- the kind of this number, or the number of no kind
abbrev pub Numbered : ℕ → Result Kind UnknownKind → Type 0
Numbered n r = MatchResult r (λ kind. number_of kind ≡ n) (λ e. (e.0 ≡ n) × (is_number n ≡ false))

-- the kind whose replies have this number, and none where no kind's have
abbrev pub RepliesTo : ℕ → Option Kind → Type 0
RepliesTo n k = MatchOption k (is_reply n ≡ false) (λ kind. reply_to (number_of kind) ≡ n)

-- the kind of a well-formed record, and none where it is not well-formed
abbrev pub KindIn : List ℕ → Option Kind → Type 0
KindIn r k = MatchOption k (well_formed r ≡ false) (λ kind. (well_formed r ≡ true) × (number_of kind ≡ kind_of r))
