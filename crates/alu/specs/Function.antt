-- Document 01, "Functions (Tables 1 to 4)".
use Rattle.std.specs.Prelude.{ℕ, Bool, true, false, List, [], ◌∷◌, get_or}
use Rattle.bits.specs.Wiring.{wired, carried, zeros, ones, I0, NOT-I0, I1, NOT-I1, carry_zero, carry_one, ICIN}
use Rattle.bits.specs.Sum.{sum}
use Rattle.bits.specs.Vector.{logic_word}
use Rattle.bits.specs.Order.{compared}
use Rattle.bits.specs.declared.Ports.{Ports}
use Rattle.alu.specs.declared.PortSet.{PortSet}
use Rattle.alu.specs.declared.Kind.{Kind}
use Rattle.alu.specs.declared.Kind.TheVariants.{Arithmetic, Logic, Comparison}

-- The three kinds of function. Arithmetic: the two words and the bit that are added. Logic: the vector. Comparison: what is
-- shown where I0 is less than I1, where they are equal, and where I0 is greater.
-- "LIMPL and RIMPL, whose rows are exchanged [in Table 4]: Table 2 decides, LIMPL 1101, RIMPL 1011."
abbrev pub functions : List Kind
functions =
    Logic 0  -- 0 no function
    ∷ Arithmetic I0 I1 ICIN  -- 1 ADD
    ∷ Arithmetic I0 NOT-I1 ICIN  -- 2 SUB
    ∷ Arithmetic NOT-I0 I1 ICIN  -- 3 RSUB
    ∷ Arithmetic I0 zeros carry_one  -- 4 INC
    ∷ Arithmetic I0 ones carry_zero  -- 5 DEC
    ∷ Logic 0b0000  -- 6 ZERO
    ∷ Logic 0b1111  -- 7 ONE
    ∷ Logic 0b0001  -- 8 AND
    ∷ Logic 0b1110  -- 9 NAND
    ∷ Logic 0b0111  -- 10 OR
    ∷ Logic 0b1000  -- 11 NOR
    ∷ Logic 0b0110  -- 12 XOR
    ∷ Logic 0b1001  -- 13 XNOR
    ∷ Logic 0b0011  -- 14 LID
    ∷ Logic 0b0101  -- 15 RID
    ∷ Logic 0b1100  -- 16 LNOT
    ∷ Logic 0b1010  -- 17 RNOT
    ∷ Logic 0b0100  -- 18 LINHI
    ∷ Logic 0b0010  -- 19 RINHI
    ∷ Logic 0b1101  -- 20 LIMPL, as in Table 2
    ∷ Logic 0b1011  -- 21 RIMPL, as in Table 2
    ∷ Comparison false true false  -- 22 EQ
    ∷ Comparison true false true  -- 23 NEQ
    ∷ Comparison false false true  -- 24 GT
    ∷ Comparison true false false  -- 25 LT
    ∷ Comparison false true true  -- 26 GEQ
    ∷ Comparison true true false  -- 27 LEQ
    ∷ []

-- The function with a number from 1 to 27. Any other number is refused before it comes here.
abbrev pub function_of : ℕ → Kind
function_of f = get_or functions f (Logic 0)

-- "Arithmetic drives O0, OCOUT, OVF; logic drives O0; comparison drives O1."
abbrev pub drives : Kind → PortSet
drives (Arithmetic p q k) = record { o0 = true; ocout = true; ovf = true; o1 = false }
drives (Logic v) = record { o0 = true; ocout = false; ovf = false; o1 = false }
drives (Comparison l e g) = record { o0 = false; ocout = false; ovf = false; o1 = true }

-- "Undriven ports show 0."
unfoldable pub ports : Kind → ℕ → ℕ → ℕ → Bool → Ports
ports (Arithmetic p q k) n left right carry =
    sum n (wired n p left right) (wired n q left right) (carried k carry)
ports (Logic v) n left right carry =
    record { o0 = logic_word n v left right; ocout = false; ovf = false; o1 = false }
ports (Comparison l e g) n left right carry =
    record { o0 = 0; ocout = false; ovf = false; o1 = compared n l e g left right }
