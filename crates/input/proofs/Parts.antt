-- Parts of slices, and bytes kept as far as there is room.
use mathlib.Core.Path.{◌≡◌, refl, sym, ap, ◌∙◌}
use mathlib.Core.List.{List}
use Prim.Native.Nat.{ℕ, ◌-◌, ◌≤◌, ◌<◌}
use native.Mathlib.Omega.{arith}
use lib.ListN.{length, take}
use lib.Seq.{sets, take-length}
use Rattle.std.proofs.lemmas.Slice.{put_mid-paste}
use Rattle.std.proofs.lemmas.List.Edits.{sets-eq}
use Rattle.std.proofs.lemmas.List.{take_min}
use Rattle.words.proofs.Lists.{start_length}
use borrow.Rule.Slice.PartMut.{put_mid}
use Rattle.std.specs.Prelude.{min}

module _ (chunk kept : List ℕ) (at : ℕ) where
  pub some_kept : (part : List ℕ) (k n : ℕ) → part ≡ take n chunk → k ≡ n → n ≡ min (length kept - at) (length chunk) → n ≤ length chunk
      → n ≤ length kept - at → at < length kept → put_mid at k kept part ≡ sets kept at (take (length kept - at) chunk)
  some_kept part k n e l m few fits h =
      let xs = take n chunk in
      let s : n ≡ length xs = start_length chunk n few in
      put_mid-paste at k kept part xs (length xs) e (omega arith) refl
      ∙ rw (take-length xs) (sym (sets-eq xs kept at (omega arith)))
      ∙ ap (λ (l : List ℕ). sets kept at l) (ap (λ (x : ℕ). take x chunk) m ∙ take_min (length kept - at) chunk)
