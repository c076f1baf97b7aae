-- Numbers in bytes, and the limits.
use Rattle.std.specs.Prelude.{ℕ, ◌+◌, ◌*◌, ◌/◌, ◌%◌, ◌^◌, List, [], ◌∷◌, ◌++◌, map, Bool, cond, get_or, eqb, ℤ}
use Rattle.std.proofs.Common.{to_z, of_z}
use Rattle.std.specs.Int.{w32}
use Rattle.paper.specs.declared.Serial.{Serial}
use Rattle.paper.specs.declared.Surface.{Surface}

-- "All numbers little-endian." What is read behind the end is 0.
abbrev pub u8 : List ℕ → ℕ → ℕ
u8 s at = get_or s at 0

abbrev pub u16 : List ℕ → ℕ → ℕ
u16 s at = u8 s at + 256 * u8 s (at + 1)

abbrev pub u32 : List ℕ → ℕ → ℕ
u32 s at = u16 s at + 65536 * u16 s (at + 2)

abbrev pub u64 : List ℕ → ℕ → ℕ
u64 s at = u32 s at + 4294967296 * u32 s (at + 4)

abbrev pub i32 : List ℕ → ℕ → ℤ
i32 s at = to_z w32 (u32 s at)

abbrev pub bytes16 : ℕ → List ℕ
bytes16 n = n % 256 ∷ n / 256 % 256 ∷ []

unfoldable pub bytes32 : ℕ → List ℕ
bytes32 n = n % 256 ∷ n / 256 % 256 ∷ n / 65536 % 256 ∷ n / 16777216 % 256 ∷ []

abbrev pub bytes64 : ℕ → List ℕ
bytes64 n = bytes32 (n % 4294967296) ++ bytes32 (n / 4294967296)

abbrev pub signed32 : ℤ → List ℕ
signed32 z = bytes32 (of_z w32 z)

-- bit i of a flag byte, and a flag as bit i
unfoldable pub bit : ℕ → ℕ → Bool
bit i n = eqb (n / 2 ^ i % 2) 1

abbrev pub flag_at : ℕ → Bool → ℕ
flag_at i b = cond b (2 ^ i) 0

-- "A serial names a picture and a surface names memory": a number as one of them, and their numbers
abbrev pub a_serial : ℕ → Serial
a_serial n = record { 0 = n }

abbrev pub a_surface : ℕ → Surface
a_surface x = record { 0 = x }

abbrev pub serial_nos : List Serial → List ℕ
serial_nos ns = map (λ (n : Serial). n.0) ns

abbrev pub surface_nos : List Surface → List ℕ
surface_nos xs = map (λ (x : Surface). x.0) xs

abbrev pub same_serial : Serial → Serial → Bool
same_serial a b = eqb a.0 b.0

abbrev pub same_surface : Surface → Surface → Bool
same_surface a b = eqb a.0 b.0

-- "The limits 16, 512 and 4,294,967,295 belong to the store and are written once."
-- 512 is two limits of equal value: the largest body and the least reply buffer.
abbrev pub capacity_limit : ℕ
capacity_limit = 16

abbrev pub body_limit : ℕ
body_limit = 512

abbrev pub reply_limit : ℕ
reply_limit = 512

-- "4,294,967,295 stands for a missing picture"
abbrev pub missing : Serial
missing = a_serial 4294967295
