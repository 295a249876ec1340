-- The ports that output codes show, from what each code shows.
use mathlib.Core.Path.{◌≡◌, ◌∙◌}
use mathlib.Core.Bool.{Bool, not}
use Prim.Native.Nat.{ℕ, ◌-◌, ◌^◌}
use lib.Dec.{eqb}
use Rattle.bits.specs.Bits.{top}
use Rattle.bits.specs.declared.Ports.{Ports}
use Rattle.output.specs.Output.{shown_bit, shown_word, shown_comparison, outputs_show}
use Rattle.output.specs.declared.Outputs.{Outputs}

pub output_parts : (r : Outputs) (n : ℕ) (t : Ports) (o m : ℕ) (c v s d : Bool)
    → o ≡ shown_word n r.main t.o0 → c ≡ shown_bit r.cout t.ocout → v ≡ shown_bit r.ovf t.ovf → m ≡ 2 ^ n - 1
    → s ≡ top n t.o0 → d ≡ shown_comparison r.code t.o1 (not (eqb t.o0 0)) (eqb t.o0 m) s t.ovf
    → ◌≡◌ {A = Ports} (record { o0 = o; ocout = c; ovf = v; o1 = d }) (outputs_show r n t)
unfolding outputs_show
output_parts r n t o m c v s d eo ec ev em es ed =
    λ i. record {
      o0 = eo i;
      ocout = ec i;
      ovf = ev i;
      o1 = (ed ∙ (λ j. shown_comparison r.code t.o1 (not (eqb t.o0 0)) (eqb t.o0 (em j)) (es j) t.ovf)) i;
    }
