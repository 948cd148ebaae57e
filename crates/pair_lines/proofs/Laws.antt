-- Lines where a pair is due. Their bytes meet 2 where they do not form a pair's frame, and then what their numbers meet, so bytes
-- that meet no refusal are a pair's; the tests on the characters say the same. Behind some pairs' lines one more is read, and its
-- numbers stand in the words; and the lines are document 01's. Assumes nothing.
use Rattle.std.proofs.Common.{ℕ, ◌+◌, ◌*◌, ◌/◌, ◌%◌, ◌≤◌, ◌<◌, ◌≡◌, refl, sym, ap, ◌∙◌, Bool, true, false}
use Rattle.std.proofs.Common.{List, [], ◌∷◌, ◌++◌, ◌⊎◌, ⊎_elim, arith, length, drop, set, replicate}
use Rattle.std.proofs.Common.{length-append, eqb, lt-ltb, le-ltb}
use Rattle.std.proofs.lemmas.List.Edits.{sets}
use Rattle.lines.specs.Line.{choose, lines, number_at}
use Rattle.numbers.specs.code.Numbers.{read_bytes, byte_at}
use Rattle.numbers.proofs.Laws.{read_length}
use Rattle.tables.proofs.Kept.{sets_snoc}
use Rattle.rules.specs.Track.{Pair}
use Rattle.graphs.specs.Graph.{Graph}
use Rattle.graphs.specs.Saved.{arc_code, meeting_code}
use Rattle.graphs.specs.Parsed.{arc, meeting, pair_at, formed, Due, frame_of, an_arc, a_meeting, ends_below, unless}
use Rattle.graphs.specs.Parsed.{refusal, taken}
use Rattle.graphs.proofs.DueLines.{rest}
use Rattle.graphs.proofs.FrameBytes.{formed_parts}
use Rattle.links.specs.words.Columns.{flat}
use Rattle.opening.proofs.Dues.{fails, meets}
use Rattle.opening.proofs.Tested.{other_tag, other_count, right}
use Rattle.opening.proofs.Turns.{Held, Sofar, sofar_none, line_more}
use Rattle.opening.proofs.Work.{onward, lines_lead}
use Rattle.pair_lines.specs.code.Pairs.{pair_refusal, pairs_read}

-- the first byte of pairs
abbrev pub PairCode : ℕ → Type 0
PairCode c = (c ≡ 0x32) ⊎ (c ≡ 0x33)

-- the pairs that it stands for: what is due, and a graph with these of them
unfoldable pub due_of : ℕ → Due
due_of c = choose (eqb c arc_code) an_arc a_meeting

unfoldable pub with_pairs : ℕ → Graph → List Pair → Graph
with_pairs c g ps =
    choose (eqb c arc_code) (record { labels = g.labels; arcs = ps; meetings = g.meetings })
    (record { labels = g.labels; arcs = g.arcs; meetings = ps })

-- a line's bytes
module _ (bs : List ℕ) where
  pair_is : (c : ℕ) → PairCode c → formed c 5 bs ≡ true
      → frame_of bs ≡ choose (eqb c arc_code) (arc (pair_at bs)) (meeting (pair_at bs))
  unfolding frame_of
  pair_is c k e =
      let p = formed_parts c 5 bs e in
      ⊎_elim (λ (h : c ≡ 0x32). rw (p.0, p.1, h)) (λ (h : c ≡ 0x33). rw (p.0, p.1, h)) k

  module _ (d n : ℕ) where
    -- 2 where they are not a pair's
    no_pair : (c : ℕ) → PairCode c → formed c 5 bs ≡ false → refusal d n (due_of c) (frame_of bs) ≡ 2
    unfolding refusal due_of
    no_pair c k e = ⊎_elim arcs meetings k
      where
        arcs : c ≡ 0x32 → refusal d n (due_of c) (frame_of bs) ≡ 2
        arcs h =
            let f : formed arc_code 5 bs ≡ false = rw h at e in
            rw h (meets bs (refusal d n an_arc) 2 (λ q. refl) (fails f) (λ q. refl) (λ q. refl) (λ q. refl) refl)

        meetings : c ≡ 0x33 → refusal d n (due_of c) (frame_of bs) ≡ 2
        meetings h =
            let f : formed meeting_code 5 bs ≡ false = rw h at e in
            rw h (meets bs (refusal d n a_meeting) 2 (λ q. refl) (λ q. refl) (fails f) (λ q. refl) (λ q. refl) refl)

    -- and by their numbers where they are
    pair_met : (c : ℕ) → PairCode c → formed c 5 bs ≡ true
        → refusal d n (due_of c) (frame_of bs) ≡ unless (ends_below n (pair_at bs))
    unfolding refusal due_of
    pair_met c k e = rw (pair_is c k e)
        (⊎_elim (λ (h : c ≡ 0x32). rw h) (λ (h : c ≡ 0x33). rw h) k)

    pair_told : (c : ℕ) → PairCode c → refusal d n (due_of c) (frame_of bs) ≡ pair_refusal n c bs
    unfolding pair_refusal
    pair_told c k = go (formed c 5 bs) refl
      where
        go : (b : Bool) → formed c 5 bs ≡ b → refusal d n (due_of c) (frame_of bs) ≡ pair_refusal n c bs
        go true e = pair_met c k e ∙ sym (rw e)
        go false e = no_pair c k e ∙ sym (rw e)

  -- a pair that meets no refusal, and the graph with it
  pair_formed : (n c : ℕ) → pair_refusal n c bs ≡ 0 → formed c 5 bs ≡ true
  unfolding pair_refusal
  pair_formed n c z = go (formed c 5 bs) refl
    where
      go : (b : Bool) → formed c 5 bs ≡ b → formed c 5 bs ≡ true
      go true e = e
      go false e = let two : pair_refusal n c bs ≡ 2 = rw e in absurd (omega arith)

  pair_taken : (n c : ℕ) → PairCode c → pair_refusal n c bs ≡ 0 → (g : Graph) (ps : List Pair)
      → taken (with_pairs c g ps) (frame_of bs) ≡ with_pairs c g (ps ++ (pair_at bs ∷ []))
  unfolding taken with_pairs
  pair_taken n c k z g ps =
      rw (pair_is c k (pair_formed n c z)) (⊎_elim (λ (h : c ≡ 0x32). rw h) (λ (h : c ≡ 0x33). rw h) k)

-- the bytes of characters, where a pair is due
module _ (cs : List ℕ) (n c : ℕ) where
  abbrev read : List ℕ
  read = read_bytes cs

  not_formed : formed c 5 read ≡ false → 2 ≡ pair_refusal n c read
  unfolding pair_refusal
  not_formed e = rw e

  pub pair_length : (length cs / 2 ≡ 5 → ⊥) → 2 ≡ pair_refusal n c read
  pair_length h = not_formed (other_count cs c 5 (λ q. h (sym (read_length cs) ∙ q)))

  module _ {b : ℕ} (first : b ≡ byte_at cs 0) where
    pub pair_tag : (b ≡ c → ⊥) → 2 ≡ pair_refusal n c read
    pair_tag h = not_formed (other_tag cs c 5 first h)

    module _ (long : length cs / 2 ≡ 5) (tagged : b ≡ c) where
      met_pair : pair_refusal n c read ≡ unless (ends_below n (pair_at read))
      unfolding pair_refusal
      met_pair = rw (right cs c 5 first tagged (read_length cs ∙ long))

      module _ {i : ℕ} (from : i ≡ number_at 1 read) where
        pub from_past : n ≤ i → 3 ≡ pair_refusal n c read
        unfolding ends_below
        from_past h = rw met_pair (simp (sym from, le-ltb i n h))

        module _ (from_in : i < n) {j : ℕ} (to : j ≡ number_at 3 read) where
          pub to_past : n ≤ j → 3 ≡ pair_refusal n c read
          unfolding ends_below
          to_past h = rw met_pair (simp (sym from, sym to, lt-ltb i n from_in, le-ltb j n h))

          pub pair_fits : j < n → 0 ≡ pair_refusal n c read
          unfolding ends_below
          pair_fits h = rw met_pair (simp (sym from, sym to, lt-ltb i n from_in, lt-ltb j n h))

-- the words of one more pair
flat_snoc : (ps : List Pair) (a : Pair) → flat (ps ++ (a ∷ [])) ≡ (flat ps ++ (a.from ∷ [])) ++ (a.to ∷ [])
unfolding flat
flat_snoc [] a = refl
flat_snoc (p ∷ ps) a = ap (λ (ws : List ℕ). p.from ∷ p.to ∷ ws) (flat_snoc ps a)

flat_length : (ps : List Pair) → length (flat ps) ≡ 2 * length ps
unfolding flat
flat_length [] = refl
flat_length (p ∷ ps) = let h = flat_length ps in omega arith

-- the pairs' lines, whose numbers stand in the words from b on
module _ (text : List ℕ) (c n m k from b : ℕ) (old : List ℕ) where
  abbrev pub PairsSofar : List ℕ → ℕ → ℕ → Type 0
  PairsSofar = Sofar (pair_refusal n c) pair_at text m k from (λ ps. sets old b (flat ps))

  pub pairs_none : PairsSofar old 0 from
  unfolding flat
  pairs_none = sofar_none _ _ _ _ _ _ _ refl

  pub pair_more : {new : List ℕ} {i at : ℕ} → PairsSofar new i at → i < m → {next : ℕ} {cs : List ℕ}
      → (j : Held text at next cs) {r : ℕ} → r ≡ pair_refusal n c (read_bytes cs) → r ≡ 0 → {x y w v : ℕ}
      → x ≡ number_at 1 (read_bytes cs) → x < 65536 → y ≡ number_at 3 (read_bytes cs) → y < 65536
      → w ≡ b + 2 * i → v ≡ w + 1
      → PairsSofar (set (set new w (x % 65536)) v (y % 65536)) (i + 1) next
  pair_more {new} {i} s more {next} {cs} j met z {x} {y} {w} {v} x-read x_Fits y-read y-fits w_is v_is =
      let a = pair_at (read_bytes cs) in
      let x_is : x % 65536 ≡ a.from = (omega arith) ∙ x-read in
      let y_is : y % 65536 ≡ a.to = (omega arith) ∙ y-read in
      let ws = flat s.so_said in
      let there : w ≡ b + length ws = omega (arith, flat_length s.so_said, s.counted) in
      let there_to : v ≡ b + length (ws ++ (a.from ∷ [])) =
      omega (arith, flat_length s.so_said, s.counted, length-append ws (a.from ∷ [])) in
      line_more _ _ _ _ _ _ _ s more j met z
      (ap (λ (u : List ℕ). set (set u w (x % 65536)) v (y % 65536)) s.holds
      ∙ ap (λ (l : ℕ). set (set (sets old b ws) w l) v (y % 65536)) x_is
      ∙ ap (λ (l : ℕ). set (set (sets old b ws) w a.from) v l) y_is
      ∙ ap (λ (u : List ℕ). set u v a.to) (sets_snoc old b ws a.from w there)
      ∙ sets_snoc old b (ws ++ (a.from ∷ [])) a.to v there_to
      ∙ ap (sets old b) (sym (flat_snoc s.so_said a)))

-- the pairs' lines are document 01's
pub pairs_lead : (text : List ℕ) (d n : ℕ) (ds : List Due) (from : ℕ) (c : ℕ) → PairCode c → (g : Graph) (m k : ℕ)
    → rest d n (replicate m (due_of c) ++ ds) (with_pairs c g []) k (lines (drop from text))
    ≡ onward (λ next. rest d n ds (with_pairs c g (pairs_read c n m k text from).said) (k + m)
    (lines (drop next text))) (pairs_read c n m k text from).answer
pairs_lead text d n ds from c code g m k =
    lines_lead text d n (due_of c) ds (pair_refusal n c) pair_at (with_pairs c g)
    (λ bs. pair_told bs d n c code) (λ bs z ps. pair_taken bs n c code z g ps) m k from []
