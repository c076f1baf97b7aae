-- Two files of replies and what is written of them, worked out by hand from document 01's replies ("u16 body length,
-- u16 kind, body") and document 02's Item 5.
use Rattle.std.specs.Prelude.{ℕ, List, [], ◌∷◌, ◌++◌}
use Prim.Native.String.{String}

pub record Example : Type 0 where
  pub first : List ℕ
  pub second : List ℕ
  pub text : String

-- the reply to a configure that is accepted, and one in which a byte of its tail is another
abbrev configured : List ℕ
configured = 5 ∷ 0 ∷ 1 ∷ 1 ∷ 0 ∷ 0 ∷ 0 ∷ 0 ∷ 0 ∷ []

abbrev other_tail : List ℕ
other_tail = 5 ∷ 0 ∷ 1 ∷ 1 ∷ 0 ∷ 0 ∷ 0 ∷ 1 ∷ 0 ∷ []

-- the reply to a begin: POC 0, flags, serial 0, no member, nothing handed out
abbrev begun_with : ℕ → List ℕ
begun_with flags =
    19 ∷ 0 ∷ 2 ∷ 1 ∷ 0 ∷ 0 ∷ 0 ∷ 0 ∷ 0 ∷ 0 ∷ flags ∷ 0 ∷ 0 ∷ 0 ∷ 0 ∷ 0 ∷ 0 ∷ 0 ∷ 0 ∷ 0 ∷ 0 ∷ 0 ∷ 0 ∷ []

-- a lists record refused with 10, a drain refused with 9
abbrev refused_lists : List ℕ
refused_lists = 2 ∷ 0 ∷ 3 ∷ 1 ∷ 10 ∷ 0 ∷ []

abbrev refused_drain : List ℕ
refused_drain = 2 ∷ 0 ∷ 5 ∷ 1 ∷ 9 ∷ 0 ∷ []

abbrev five : List ℕ
five = refused_drain ++ refused_drain ++ refused_drain ++ refused_drain ++ refused_drain

abbrev pub examples : List Example
examples =
    -- "One run, whose second file lacks only the third and last reply: `2 only first`."
    record {
      first = configured ++ refused_lists ++ refused_drain;
      second = configured ++ refused_lists;
      text = "2 only first\n";
    }
    -- the other way round
    ∷ record {
      first = configured ++ refused_lists;
      second = configured ++ refused_lists ++ refused_drain;
      text = "2 only second\n";
    }
    -- a byte differs; one behind the ninth
    ∷ record { first = configured ++ refused_lists; second = other_tail ++ refused_lists; text = "0 differ 7\n" }
    ∷ record { first = refused_lists ++ begun_with 7; second = refused_lists ++ begun_with 3; text = "1 differ 10\n" }
    -- "nothing for equal replies", whatever stands around them; one line each, in order
    ∷ record {
      first = configured ++ refused_lists ++ refused_drain ++ refused_drain;
      second = other_tail ++ refused_lists ++ refused_lists;
      text = "0 differ 7\n2 differ 2\n3 only first\n";
    }
    ∷ record { first = configured ++ refused_lists; second = configured ++ refused_lists; text = "" }
    -- an incomplete last reply against the whole one: the shorter length; and against none
    ∷ record {
      first = configured ++ refused_lists;
      second = configured ++ (2 ∷ 0 ∷ 3 ∷ 1 ∷ 10 ∷ []);
      text = "1 differ 5\n";
    }
    ∷ record { first = configured ++ (2 ∷ 0 ∷ 3 ∷ 1 ∷ 10 ∷ []); second = configured; text = "1 only first\n" }
    ∷ record { first = configured; second = configured ++ (2 ∷ 0 ∷ 3 ∷ 1 ∷ 10 ∷ []); text = "1 only second\n" }
    -- a byte in the middle of it differs: the place of that byte, though it is the shorter one too
    ∷ record { first = refused_lists; second = 2 ∷ 0 ∷ 5 ∷ 1 ∷ 10 ∷ []; text = "0 differ 2\n" }
    -- a rest of one byte, of two and of three
    ∷ record { first = configured; second = configured ++ (2 ∷ []); text = "1 only second\n" }
    ∷ record { first = configured ++ (2 ∷ 0 ∷ []); second = configured; text = "1 only first\n" }
    ∷ record { first = configured ++ refused_lists; second = configured ++ (2 ∷ 0 ∷ 3 ∷ []); text = "1 differ 3\n" }
    ∷ record { first = 2 ∷ []; second = 2 ∷ 0 ∷ []; text = "0 differ 1\n" }
    -- each file is cut by its own heads: where the first says one byte more, the cuts behind it stand elsewhere, here 7
    -- and 5 bytes
    ∷ record {
      first = refused_lists ++ refused_drain;
      second = 3 ∷ 0 ∷ 3 ∷ 1 ∷ 10 ∷ 0 ∷ 2 ∷ 0 ∷ 5 ∷ 1 ∷ 9 ∷ 0 ∷ [];
      text = "0 differ 0\n1 differ 0\n";
    }
    -- replies of two lengths: their heads differ
    ∷ record { first = configured; second = refused_lists; text = "0 differ 0\n" }
    -- an empty file against one reply and against two, and two empty files
    ∷ record { first = []; second = configured; text = "0 only second\n" }
    ∷ record { first = configured ++ refused_drain; second = []; text = "0 only first\n1 only first\n" }
    ∷ record { first = []; second = []; text = "" }
    -- the eleventh reply has number 10
    ∷ record { first = five ++ five ++ refused_drain; second = five ++ five; text = "10 only first\n" }
    ∷ []
