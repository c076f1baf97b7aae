-- The place of each word of `front`, beside the sets and the store, under the name that words.rt has for it.
use Rattle.std.specs.Prelude.{ℕ}

-- whether configure was accepted, whether the next begin is first in the bitstream, whether it is first after end of
-- sequence, and its serial
abbrev pub CONFIGURED : ℕ
CONFIGURED = 0

abbrev pub FIRST : ℕ
FIRST = 1

abbrev pub ENDED : ℕ
ENDED = 2

abbrev pub NEXT : ℕ
NEXT = 3

-- the limits that configure set
abbrev pub K : ℕ
K = 4

abbrev pub CAPACITY : ℕ
CAPACITY = 5

abbrev pub BUFFERING : ℕ
BUFFERING = 6

abbrev pub REORDER : ℕ
REORDER = 7

abbrev pub LATENCY : ℕ
LATENCY = 8

-- whether there is a previous Tid0 picture, its lsb and its MSB
abbrev pub PREV : ℕ
PREV = 9

abbrev pub PREV-LSB : ℕ
PREV-LSB = 10

abbrev pub PREV-MSB : ℕ
PREV-MSB = 11

-- whether a picture is current, and what is known of it
abbrev pub CURRENT : ℕ
CURRENT = 12

abbrev pub SERIAL : ℕ
SERIAL = 13

abbrev pub SURFACE : ℕ
SURFACE = 14

abbrev pub POC : ℕ
POC = 15

abbrev pub LSB : ℕ
LSB = 16

abbrev pub MSB : ℕ
MSB = 17

abbrev pub OUTPUT : ℕ
OUTPUT = 18

abbrev pub VALID : ℕ
VALID = 19

-- the sizes of its sets StCurrBefore, StCurrAfter and LtCurr
abbrev pub BEFORE : ℕ
BEFORE = 20

abbrev pub AFTER : ℕ
AFTER = 21

abbrev pub LONG : ℕ
LONG = 22
