-- One call of `next` after another gives the cut.
use Rattle.std.proofs.Common.{◌≡◌, refl, sym, ap, ◌∙◌, ℕ, Bool, true, false, true≢false, List, [], ◌∷◌, inl}
use Rattle.std.proofs.Common.{inr, arith, length, Option, Some, None, Result, Ok, Err}
use Rattle.cargo_platform.specs.declared.tokens.Spanned.{Spanned}
use Rattle.cargo_platform.specs.declared.tokens.TokenFault.{TokenFault}
use Rattle.cargo_platform.specs.Tokens.{Placed}
use Rattle.cargo_platform.specs.Cut.{Nothing, Comes, IsCutFrom}
use Rattle.cargo_platform.specs.Reading.{Progress, given, is_lexical, GivesEach}
use Rattle.cargo_platform.specs.CutLaws.{CutsAreRead, IsReadAlike, GivesNoMore, EndsForGood, FailsOnce}
use Rattle.cargo_platform.proofs.OneCut.{one_comes, one_cut_from}
use Rattle.cargo_platform.proofs.SomeCut.{cut_cons}
use Rattle.cargo_platform.proofs.Scanning.{no_spaces}

-- ---- what is read is the cut

read_cut : (p : Progress) (ts : List Placed) (tail : ℕ) → GivesEach p ts tail → IsCutFrom p.text p.place ts tail
read_cut p [] tail (last, new, none, g, at) =
    record { last = last; no_token = none; comes = rw (← at) g.comes }
read_cut p (t ∷ ts) tail (new, g, more) =
    let others = read_cut new ts tail more in
    cut_cons p.text p.place tail t ts g.comes.0 g.comes.1 g.comes.2
    (record {
      last = others.last;
      no_token = others.no_token;
      comes = rw (← g.comes.3) (rw (← g.same_text) others.comes);
    })

-- ---- the cut is read

abbrev came_to : List ℕ → ℕ → Bool → Progress
came_to text place failed = record { text = text; place = place; failed = failed; looks = 0 }

cut_read : (text : List ℕ) (from tail : ℕ) (ts : List Placed) → IsCutFrom text from ts tail
    → GivesEach (came_to text from false) ts tail
cut_read text from tail [] c = (
  c.last,
  came_to text tail (is_lexical c.last),
  c.no_token,
  record { going = refl; same_text = refl; comes = c.comes; failed_is = refl },
  refl,
)
cut_read text from tail (t ∷ ts) c = (
  came_to text t.end false,
  record { going = refl; same_text = refl; comes = c.comes.0; failed_is = refl },
  cut_read text t.end tail ts (record { last = c.last; no_token = c.no_token; comes = c.comes.1 }),
)

pub cuts_are_read : (text : List ℕ) → CutsAreRead text
cuts_are_read text = λ ts tail. (read_cut (came_to text 0 false) ts tail, cut_read text 0 tail ts)

pub read_alike : (text : List ℕ) → IsReadAlike text
read_alike text = λ ts us tail end cut r. one_cut_from text us ts 0 end tail ((cuts_are_read text us end).0 r) cut

-- ---- nothing comes after the end

failed_gives : (p : Progress) → p.failed ≡ true → GivesNoMore p
failed_gives p failed r new (inl g) = absurd (true≢false (sym failed ∙ g.going))
failed_gives p failed r new (inr g) = g.1

-- at the end of a text nothing comes
end_gives : (p : Progress) → p.place ≡ length p.text → GivesNoMore p
end_gives p at_end r new (inr g) = g.1
end_gives p at_end r new (inl g) = go r (one_comes p.text p.place new.place (length p.text) (given r) Nothing
    g.comes (end_comes p.text p.place at_end)).0
  where
    end_comes : (text : List ℕ) (at : ℕ) → at ≡ length text → Comes text at Nothing (length text)
    end_comes text at is = (rw (← is) (no_spaces text at (omega (arith, is))), refl)

    go : (r : Option (Result Spanned TokenFault)) → given r ≡ Nothing → r ≡ None
    go None h = refl
    go (Some (Ok s)) h = absurd cc
    go (Some (Err f)) h = absurd cc

pub ends_for_good : (old new : Progress) → EndsForGood old new
ends_for_good old new (inr g) = failed_gives new (ap (λ (p : Progress). p.failed) g.2 ∙ g.0)
ends_for_good old new (inl g) = end_gives new (g.comes.1 ∙ ap length (sym g.same_text))

pub fails_once : (old new : Progress) → FailsOnce old new
fails_once old new fault (inl g) = failed_gives new g.failed_is
fails_once old new fault (inr g) = absurd (let e = g.1 in cc)
