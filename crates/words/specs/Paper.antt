-- Refusals, and answers in document 01's terms. "For an answer that is an enum, a definition gives this paper's number and values for
-- each case of the enum."
use Rattle.std.specs.Prelude.{ℕ, List, [], ◌∷◌, Option, Some, None, Result, Err}
use Rattle.words.specs.declared.Refusal.{Refusal}
use Rattle.words.specs.declared.Fault.{Fault}
use Rattle.words.specs.declared.Fault.TheVariants as F
use Rattle.words.specs.declared.port.Port.{Port}
use Rattle.words.specs.declared.port.Port.TheVariants.{O0, Ocout, Ovf, O1}

-- "1. No words, over 568 in a job or over 29 in a mapping" .. "24": the numbers of refusals
abbrev pub number_of : Fault → ℕ
number_of F.BadLength = 1
number_of F.OutOfSequence = 2
number_of F.NotLaidOut = 3
number_of F.NotRising = 4
number_of F.ReadsUndriven = 5
number_of F.OtherOutputs = 6
number_of F.OtherWidth = 7
number_of F.NotInJob = 8
number_of F.Incomplete = 9
number_of F.WrongRecipe = 10
number_of F.OtherGlue = 11
number_of F.Unmappable = 12
number_of F.NotSound = 20
number_of F.AlreadyBound = 21
number_of F.Unbound = 22
number_of F.TooFewWords = 23
number_of F.NotBound = 24

-- "port (0 O0, 1 OCOUT, 2 OVF, 3 O1)"
abbrev pub port_number : Port → ℕ
port_number O0 = 0
port_number Ocout = 1
port_number Ovf = 2
port_number O1 = 3

-- "Every refusal gives number and place"
abbrev pub refusal : Fault → ℕ → Refusal
refusal fault place = record { fault = fault; place = place }

-- the refusal of a word by itself, if it has one, at this place; else what is said without one
abbrev pub unless_fault : {A : Type 0} → Option Fault → ℕ → Result A Refusal → Result A Refusal
unless_fault (Some fault) place next = Err (refusal fault place)
unless_fault None place next = next

-- the number of no refusal
abbrev pub no_refusal : ℕ
no_refusal = 0

-- how refusals 9, 10, 12, 21, 22 and 24 write a source: "place: .. function"
abbrev pub source_place : ℕ → ℕ
source_place function = function

-- What an answer says: the number of its refusal, or `no_refusal`; the place; and the values that come with it.
pub record Paper : Type 0 where
  pub number : ℕ
  pub place : ℕ
  pub values : List ℕ

abbrev pub accepted : List ℕ → Paper
accepted vs = record { number = no_refusal; place = 0; values = vs }

abbrev pub refused : ℕ → ℕ → Paper
refused number place = record { number = number; place = place; values = [] }

abbrev pub refused_with : ℕ → ℕ → List ℕ → Paper
refused_with number place vs = record { number = number; place = place; values = vs }

-- a refusal as such an answer
abbrev pub told : Refusal → Paper
told r = refused (number_of r.fault) r.place

-- of a job and a mapping, "1 to 6 also say which of the two is meant": 0 the job, 1 the mapping
abbrev pub told_of_job : Refusal → Paper
told_of_job r = refused_with (number_of r.fault) r.place (0 ∷ [])

abbrev pub told_of_mapping : Refusal → Paper
told_of_mapping r = refused_with (number_of r.fault) r.place (1 ∷ [])
