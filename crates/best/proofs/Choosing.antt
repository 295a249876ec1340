-- Of the rules of a source only the glue that each makes matters.
use mathlib.Core.Path.{◌≡◌, refl, ap, ◌∙◌}
use mathlib.Core.List.{List, [], ◌∷◌}
use Prim.Native.Nat.{ℕ}
use Rattle.std.specs.Prelude.{Option, Some, if◌then◌else◌}
use Rattle.table.specs.Parts.{Terms}
use Rattle.best.specs.Best.{serves, beats, better, best_of}
use Rattle.best.specs.declared.Best.{Best}

module _ (t : Terms) (f : ℕ) where
  better-same : (g h : ℕ → ℕ) → ((w : ℕ) → g w ≡ h w) → (best : Option Best) (w : ℕ) → better g t f best w ≡ better h t f best w
  unfolding better
  better-same g h e best w =
      ap (λ (x : ℕ). if serves t f w then if beats best x then Some (record { word = w; total = x }) else best else best) (e w)

  pub best_same : (g h : ℕ → ℕ) → ((w : ℕ) → g w ≡ h w) → (best : Option Best) (ws : List ℕ) → best_of g t f best ws ≡ best_of h t f best ws
  unfolding best_of
  best_same g h e best [] = refl
  best_same g h e best (w ∷ ws) =
      ap (λ (x : Option Best). best_of g t f x ws) (better-same g h e best w) ∙ best_same g h e (better h t f best w) ws
