-- Words that hold what an accepted mapping's words hold are accepted, with these facts: what the mapper writes is a mapping.
use mathlib.Core.Path.{◌≡◌, refl, sym, ap, subst, ◌∙◌}
use mathlib.Core.Bool.{true}
use mathlib.Core.List.{List, [], ◌∷◌, ◌++◌}
use Prim.Native.Nat.{ℕ, zero, suc, ◌+◌, ◌-◌, ◌*◌, ◌<◌, ◌≤◌, ◌^◌}
use native.Mathlib.Numerals.{one-add}
use native.Mathlib.Omega.{arith}
use lib.ListN.{length, drop, get_or, drop_of_length-le, length-append, get_or-append}
use lib.Seq.{get_or-append_seam}
use borrow.Author.Tests.{lt-ltb}
use Rattle.words.specs.Field.{field, kind_of, content_of}
use Rattle.words.proofs.Choices.{and_join}
use Rattle.words.proofs.Lists.{drop-next}
use Rattle.recipe.specs.Fields.{source_of}
use Rattle.words.specs.Kinds.{HEADER, BINDING, GLUE, is_recipe}
use Rattle.words.specs.declared.kind.WordKind.TheVariants.{Header, Binding, Glue}
use Rattle.sequence.specs.Limits.{most_bindings}
use Rattle.sequence.specs.Sequence.{stage_of, mapping_sequence, in_sequence}
use Rattle.grammar.specs.Reading.{rises, beginning, after, function_in, reading}
use Rattle.reader.specs.Words.{words_read}
use Rattle.reader.specs.Mapping.{mapping_facts, mapping_of, WellFormedMapping}
use Rattle.sequence.specs.declared.File.{File}
use Rattle.sequence.specs.declared.File.TheVariants.{AsMapping}
use Rattle.sequence.specs.declared.State.{State}
use Rattle.std.specs.Prelude.{Ok}
use Rattle.reader.specs.declared.Mapping.{Mapping}
use Rattle.grammar.proofs.Steps.{by_kind, first_of_kind}
use Rattle.wellformed.proofs.Parts.{RecipeWord, kind_of-laid, content_of-laid}
use Rattle.grammar.proofs.Faultless.{Faultless, no_fault}
use Rattle.alu.proofs.Shown.{is_width_lem}
use Rattle.wellformed.proofs.Words.{width_whole, no_outputs, recipe_outputs, function_of-binding, rises_above}
use Rattle.wellformed.proofs.MappingWords.{Open, by_open, MappingFacts}
use Rattle.reader.proofs.Limits.{some_words}

said : (ws : List ℕ) (s : State) → words_read AsMapping ws ≡ Ok s → stage_of s ≡ GLUE
    → mapping_of ws ≡ Ok (mapping_facts (get_or ws 0 0) (get_or ws (length ws - 1) 0) s)
unfolding mapping_of
said ws s e h = rw (e, h) refl

-- ---- one word

-- a word without a fault is passed over
pub passes : (file : File) (ws : List ℕ) (s : State) (i : ℕ) → i < length ws → Faultless file s (get_or ws i 0)
    → reading file s i (drop i ws) ≡ reading file (after s (get_or ws i 0)) (i + 1) (drop (i + 1) ws)
passes file ws s i h g = rw (drop-next ws i h, no_fault file s (get_or ws i 0) g) refl

module _ (s : State) (w : ℕ) where
  free_header : stage_of s ≡ 0 → kind_of w ≡ HEADER → 1 ≤ content_of w → content_of w ≤ 64 → Faultless AsMapping s w
  unfolding in_sequence mapping_sequence is_recipe
  free_header z k g h =
      record {
        in_sequence_lem = rw (k, z) refl;
        layout = sym (by_kind AsMapping w Header k) ∙ is_width_lem (content_of w) g h;
        order = sym (first_of_kind s w Header k (λ e. omega arith));
        outputs = no_outputs w HEADER k refl;
      }

  free_binding : Open s → s.bindings < most_bindings → RecipeWord BINDING w → rises s w ≡ true → Faultless AsMapping s w
  unfolding in_sequence mapping_sequence
  free_binding o few r order =
      let k = r.kind_is in
      let f = recipe_outputs w r.no_fault in
      record {
        in_sequence_lem = rw k (and_join o (lt-ltb s.bindings most_bindings few));
        layout = sym (by_kind AsMapping w Binding k) ∙ f.laid_out_lem;
        order = order;
        outputs = λ _. (f.driven, f.exact);
      }

  free_glue : Open s → kind_of w ≡ GLUE → (stage_of s ≡ GLUE → ⊥) → Faultless AsMapping s w
  unfolding in_sequence mapping_sequence is_recipe
  free_glue o k other =
      record {
        in_sequence_lem = rw k o;
        layout = sym (by_kind AsMapping w Glue k);
        order = sym (first_of_kind s w Glue k other);
        outputs = no_outputs w GLUE k refl;
      }

-- ---- all words

-- Before word i, after the header and j bindings: what the next binding asks for.
record Ready (ws : List ℕ) (s : State) (i j : ℕ) : Type 0 where
  next : i ≡ 1 + j
  bound : s.bindings ≡ j
  is_open : Open s
  order : (w : ℕ) → kind_of w ≡ BINDING → (1 ≤ j → (p : ℕ) → p + 1 ≡ i → function_in (get_or ws p 0) < function_in w) → rises s w ≡ true

-- The words from one on are passed over, and the last is a glue count.
record Closes (ws : List ℕ) (s : State) (i n : ℕ) : Type 0 where
  end : State
  ends : reading AsMapping s i (drop i ws) ≡ Ok end
  closed : stage_of end ≡ GLUE
  bound : end.bindings ≡ n

module _ (ws : List ℕ) (mapping : Mapping) (q : MappingFacts ws mapping) where
  binding_at_lem : (i : ℕ) → 1 ≤ i → i ≤ mapping.bindings → RecipeWord BINDING (get_or ws i 0)
  binding_at_lem i g h =
      let e : 1 + (i - 1) ≡ i = omega arith in
      subst (λ (x : ℕ). RecipeWord BINDING (get_or ws x 0)) e (q.binding_words_lem (i - 1) (omega arith))

  rise_at : (p i : ℕ) → 1 ≤ p → p + 1 ≡ i → i ≤ mapping.bindings → function_in (get_or ws p 0) < function_in (get_or ws i 0)
  rise_at p i g e h =
      let a : 1 + (p - 1) ≡ p = omega arith in
      let b : 1 + (p - 1 + 1) ≡ i = omega arith in
      let r = q.bindings_rise (p - 1) (omega arith) in
      let r' = subst (λ (x : ℕ). source_of (get_or ws x 0) < source_of (get_or ws (1 + (p - 1 + 1)) 0)) a r in
      let r'' = subst (λ (x : ℕ). source_of (get_or ws p 0) < source_of (get_or ws x 0)) b r' in
      omega (
        arith,
        r'',
        function_of-binding (get_or ws p 0) (binding_at_lem p g (omega arith)),
        function_of-binding (get_or ws i 0) (binding_at_lem i (omega arith) h),
      )

  at_glue : (i : ℕ) (s : State) → Ready ws s i mapping.bindings → Closes ws s i mapping.bindings
  at_glue i s r =
      let w = get_or ws i 0 in
      let k : kind_of w ≡ GLUE = subst (λ (x : ℕ). kind_of (get_or ws x 0) ≡ GLUE) (sym r.next) q.glue_kind in
      let other : stage_of s ≡ GLUE → ⊥ = λ e. by_open s r.is_open (λ h. omega arith) (λ h. omega arith) in
      let e = passes AsMapping ws s i (omega (arith, q.size)) (free_glue s w r.is_open k other) in
      let z : drop (i + 1) ws ≡ [] = drop_of_length-le ws {i = i + 1} (omega (arith, q.size)) in
      record {
        end = after s w;
        ends = e ∙ ap (reading AsMapping (after s w) (i + 1)) z;
        closed = rw k refl;
        bound = rw k r.bound;
      }

  ready_more : (i j : ℕ) (s : State) → j < mapping.bindings → Ready ws s i j → Ready ws (after s (get_or ws i 0)) (i + 1) (j + 1)
  ready_more i j s h r =
      let w = get_or ws i 0 in
      let k = (binding_at_lem i (omega arith) (omega arith)).kind_is in
      record {
        next = omega arith;
        bound = rw k (ap (λ (x : ℕ). x + 1) r.bound);
        is_open = rw k refl;
        order = λ v kv above. rises_above s w Binding k v kv (λ e. cc) (above (omega arith) i refl);
      }

  -- a word that is passed over, before those that close
  closes_more : (i : ℕ) (s : State) → i < length ws → Faultless AsMapping s (get_or ws i 0)
      → Closes ws (after s (get_or ws i 0)) (i + 1) mapping.bindings → Closes ws s i mapping.bindings
  closes_more i s h g c = record { end = c.end; ends = passes AsMapping ws s i h g ∙ c.ends; closed = c.closed; bound = c.bound }

  at_bindings : (d i j : ℕ) (s : State) → j + d ≡ mapping.bindings → Ready ws s i j → Closes ws s i mapping.bindings
  at_bindings zero i j s e r =
      let z : j ≡ mapping.bindings = omega arith in at_glue i s (subst (Ready ws s i) z r)
  at_bindings (suc d) i j s e r =
      let w = get_or ws i 0 in
      let b = binding_at_lem i (omega arith) (omega arith) in
      let order = r.order w b.kind_is (λ g p h. rise_at p i (omega arith) h (omega arith)) in
      closes_more i s (omega (arith, q.size)) (free_binding s w r.is_open (omega (arith, q.bindings_most)) b order)
      (at_bindings d (i + 1) (j + 1) (after s w) (omega arith) (ready_more i j s (omega arith) r))

  after-header : Closes ws beginning 0 mapping.bindings
  after-header =
      let w = get_or ws 0 0 in
      let k = q.header_kind in
      closes_more 0 beginning (omega (arith, q.size)) (free_header beginning w refl k (omega arith) (omega arith))
      (at_bindings mapping.bindings 1 0 (after beginning w) (omega arith)
      (record {
        next = refl;
        bound = rw k refl;
        is_open = rw k refl;
        order = λ v kv _. sym (first_of_kind (after beginning w) v Binding kv (rw k (λ e. omega arith)));
      }))

  pub accepts : WellFormedMapping ws mapping
  accepts =
      let c = after-header in
      let width : field (get_or ws 0 0) 0 7 ≡ mapping.width
      = sym (width_whole (get_or ws 0 0) (record { least = omega arith; most = omega arith })) ∙ q.header in
      let last : length ws - 1 ≡ 1 + mapping.bindings = omega (arith, q.size) in
      let glue : field (get_or ws (length ws - 1) 0) 0 28 ≡ mapping.glue
      = ap (λ (x : ℕ). content_of (get_or ws x 0)) last ∙ q.glue in
      let words = some_words AsMapping ws (omega (arith, q.size)) (omega (arith, q.size, q.bindings_most)) ∙ c.ends in
      said ws c.end words c.closed ∙ ap Ok (λ x. record { width = width x; bindings = c.bound x; glue = glue x })

-- ---- words written one after another: a header, bindings and a glue count

module _ (width glue : ℕ) (bs : List ℕ) where
  abbrev pub laid : List ℕ
  laid = (HEADER * 2 ^ 28 + width) ∷ (bs ++ ((GLUE * 2 ^ 28 + glue) ∷ []))

  pub laid_length : length laid ≡ length bs + 2
  laid_length = omega (arith, length-append bs ((GLUE * 2 ^ 28 + glue) ∷ []))

  laid_binding : (m : ℕ) → m < length bs → get_or laid (1 + m) 0 ≡ get_or bs m 0
  laid_binding m h = ap (λ (x : ℕ). get_or laid x 0) (one-add m) ∙ get_or-append bs ((GLUE * 2 ^ 28 + glue) ∷ []) 0 m h

  laid_glue : get_or laid (1 + length bs) 0 ≡ GLUE * 2 ^ 28 + glue
  laid_glue = ap (λ (x : ℕ). get_or laid x 0) (one-add (length bs)) ∙ get_or-append_seam bs (GLUE * 2 ^ 28 + glue) [] 0

  pub laid_well_formed : 1 ≤ width → width ≤ 64 → glue < 2 ^ 28 → length bs ≤ most_bindings
      → ((m : ℕ) → m < length bs → RecipeWord BINDING (get_or bs m 0))
      → ((m : ℕ) → m + 1 < length bs → source_of (get_or bs m 0) < source_of (get_or bs (m + 1) 0))
      → MappingFacts laid (record { width = width; bindings = length bs; glue = glue })
  laid_well_formed least most fits few words rise =
      record {
        size = omega (arith, laid_length);
        width_least = least;
        width_most = most;
        bindings_most = few;
        header_kind = kind_of-laid HEADER width (omega arith) (omega arith);
        header = content_of-laid HEADER width (omega arith);
        binding_words_lem = λ m h. subst (RecipeWord BINDING) (sym (laid_binding m h)) (words m h);
        bindings_rise =
            λ m h.
            omega (arith, rise m h, ap source_of (laid_binding m (omega arith)), ap source_of (laid_binding (m + 1) h));
        glue_kind = ap kind_of laid_glue ∙ kind_of-laid GLUE glue (omega arith) fits;
        glue = ap content_of laid_glue ∙ content_of-laid GLUE glue fits;
      }
