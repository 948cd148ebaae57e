-- What the functions over a run's block tell, by what their tests found and the calls on the way promise. Assumes nothing.
use Rattle.std.proofs.Common.{ℕ, ◌<◌, ◌≤◌, ◌≡◌, refl, ◌∙◌, ap, List, [], ◌∷◌, length, take, le-leb}
use Rattle.std.proofs.lemmas.Bool.{lt-leb}
use Rattle.std.proofs.lemmas.List.Edits.{sets}
use Rattle.lines.specs.Line.{Raw}
use Rattle.scripts.specs.Script as Script
use Rattle.runs.specs.code.Doors as Run
use Rattle.runs.specs.Answer.{Answer}
use Rattle.playing.specs.code.Playing as Line
use Rattle.playing.specs.Played.{Played}
use Rattle.offering.specs.code.Offering.{seen}
use Rattle.offering.specs.declared.Offered.{Offered}
use Rattle.offers.specs.code.Following.{offered}
use Rattle.status.specs.code.Status.{status}
use Rattle.rules.specs.declared.Status.{Status}
use Rattle.counting.specs.code.Counting.{reference}
use Rattle.answers.specs.Numbers as told
use Rattle.answers.specs.words.Blocks.{run_stamp, head_word, unready}
use Rattle.answers.proofs.Blocks.{untouched, filled}
use Rattle.run_parts.specs.code.RunTold as host

-- all of a list
take_all : (xs : List ℕ) → take (length xs) xs ≡ xs
take_all [] = refl
take_all (x ∷ xs) = ap (λ ys. x ∷ ys) (take_all xs)

pub started : (w g c : List ℕ) → w ≡ Run.fresh_nodes → g ≡ Run.fresh_track → c ≡ Run.fresh_counters
    → host.with_start run_stamp w g c ≡ host.started
started w g c w_is g_is c_is = rw (w_is, g_is, c_is)

module _ (head : List ℕ) (stamp k : ℕ) (k_is : k ≡ unready (head_word head 0) stamp) where
  module _ (p x ds w g c : List ℕ) where
    pub step_untouched : (address : List ℕ) → (k ≡ 0 → ⊥)
        → host.with_run k ds w g c ≡ host.stepped head stamp p x ds w g c address
    unfolding host.stepped
    step_untouched address h = untouched _ _ k _ k_is h

    pub step_too_long : (address : List ℕ) → k ≡ 0 → Script.most < length address → (r : ℕ) → r ≡ told.of_refusal 7
        → host.with_run r ds w g c ≡ host.stepped head stamp p x ds w g c address
    unfolding host.stepped
    step_too_long address h long r r_is = rw (r_is, ← filled _ _ k _ k_is h, lt-leb _ _ long)

    pub step_taken : (address es : List ℕ) → k ≡ 0 → length address ≤ Script.most
        → es ≡ sets ds 0 (take (length address) address)
        → (a : Answer) (v h i : List ℕ) → Run.with_answer a v h i ≡ Run.stepped p x (length address) es w g c
        → (r : ℕ) → r ≡ told.of_step a
        → host.with_run r es v h i ≡ host.stepped head stamp p x ds w g c address
    unfolding host.stepped
    step_taken address es z fits es_is a v h i so r r_is =
        let whole : es ≡ sets ds 0 address = es_is ∙ ap (sets ds 0) (take_all address) in
        rw (r_is, ← filled _ _ k _ k_is z, le-leb _ _ fits, ← whole, ← so)

    pub line_untouched : (at : ℕ) (ls : List Raw) → (k ≡ 0 → ⊥)
        → host.with_line k at ds w g c ≡ host.played head stamp p x ds w g c at ls
    unfolding host.played
    line_untouched at ls h = untouched _ _ k _ k_is h

    pub line_played : (at : ℕ) (ls : List Raw) (es : List ℕ) → k ≡ 0 → es ≡ sets ds 0 (Script.left ls)
        → (a : Played) (v h i : List ℕ) → Line.with_played a v h i ≡ Line.played p x w g c at ls ds
        → (r at' : ℕ) → r ≡ told.of_played a → at' ≡ told.cursor_behind at a
        → host.with_line r at' es v h i ≡ host.played head stamp p x ds w g c at ls
    unfolding host.played
    line_played at ls es z es_is a v h i so r at' r_is at_is =
        rw (r_is, at_is, ← filled _ _ k _ k_is z, es_is, ← so)

  module _ (p x w c : List ℕ) where
    pub offers_untouched : (events : ℕ) → (k ≡ 0 → ⊥)
        → host.with_events k events ≡ host.offers head stamp p x w c events
    unfolding host.offers
    offers_untouched events h = untouched _ _ k _ k_is h

    pub offers_found : (events : ℕ) → k ≡ 0 → (n : ℕ) → n ≡ reference c → (o : Offered) → seen o ≡ offered p x w n
        → (r : ℕ) → r ≡ told.of_offers o.tau o.tick
        → host.with_events r o.events ≡ host.offers head stamp p x w c events
    unfolding host.offers
    offers_found events z n n_is o so r r_is = rw (r_is, ← filled _ _ k _ k_is z, ← n_is, ← so)

    pub status_untouched : (k ≡ 0 → ⊥) → k ≡ host.status head stamp p x w c
    unfolding host.status
    status_untouched h = untouched _ _ k _ k_is h

    pub status_found : k ≡ 0 → (n : ℕ) → n ≡ reference c → (s : Status) → s ≡ status p x w n
        → (r : ℕ) → r ≡ told.of_status s → r ≡ host.status head stamp p x w c
    unfolding host.status
    status_found z n n_is s s_is r r_is = rw (r_is, ← filled _ _ k _ k_is z, ← n_is, s_is)
