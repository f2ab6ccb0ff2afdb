-- Connections that come in, one after the other.
use Rattle.std.proofs.Common.{◌≡◌, ◌+◌, ℕ, Bool, true, false, List, [], ◌∷◌, ◌++◌, Option, Some, None, sym, ap, subst, ◌∙◌}
use Rattle.std.proofs.lemmas.List.{append_assoc}
use Rattle.rk_daemon.specs.declared.accepting.Until.{Until}
use Rattle.rk_daemon.specs.Accepting.{Accepts, LetsIn, Watches, barred, ends, goes, goes_on, let_in, over, uncounted, unwatched, watched}
use Rattle.rk_daemon.specs.Door.{Act, Watched, Accepted, Paused, HandedOut}
use Rattle.rk_daemon.specs.Story.{Does, and_then}
use Rattle.rk_daemon.proofs.Stories.{more, still}

abbrev Told : Type 0
Told = Option (List Act)

-- ---- standard input

pub not_watched : (eof : Bool) (s : Told) → eof ≡ false → Does (Watches eof eof) s s
not_watched true s is = absurd (cc)
not_watched false s is = ([], still s, unwatched)

pub was_watched : (eof is_over : Bool) (s t : Told) → eof ≡ true → t ≡ and_then s (Watched is_over ∷ []) → Does (Watches eof is_over) s t
was_watched true is_over s t is e = (Watched is_over ∷ [], e, watched is_over)
was_watched false is_over s t is e = absurd (cc)

-- ---- one connection

module _ (until : Until) (last : ℕ) where
  pub was_over : (s t : Told) → Does (Watches until.eof true) s t → Does (LetsIn until last None) s t
  was_over s t (acts, e, w) = (acts, e, over acts w)

  pub was_barred : (s t u v : Told) → Does (Watches until.eof false) s t → u ≡ and_then t (Accepted false ∷ []) → v ≡ and_then u (Paused ∷ [])
      → Does (LetsIn until last (Some last)) s v
  was_barred s t u v (acts, e, w) f g = (
    acts ++ Accepted false ∷ Paused ∷ [],
    more s t v acts (Accepted false ∷ Paused ∷ []) e (more t u v (Accepted false ∷ []) (Paused ∷ []) f g),
    barred acts w,
  )

  pub was_uncounted : (next : Option ℕ) (s t u : Told) → Does (Watches until.eof false) s t → u ≡ and_then t (Accepted true ∷ []) → last ≡ 4294967295
      → next ≡ None → Does (LetsIn until last next) s u
  was_uncounted next s t u (acts, e, w) f most none =
      subst (λ n. Does (LetsIn until last n) s u) (sym none)
      (acts ++ Accepted true ∷ [], more s t u acts (Accepted true ∷ []) e f, uncounted acts w most)

  pub was_let_in : (number : ℕ) (is_taken : Bool) (next : Option ℕ) (s t u v : Told) → Does (Watches until.eof false) s t → u ≡ and_then t (Accepted true ∷ [])
      → v ≡ and_then u (HandedOut number is_taken ∷ []) → number ≡ last + 1 → next ≡ goes_on until number is_taken → Does (LetsIn until last next) s v
  was_let_in number is_taken next s t u v (acts, e, w) f g one is =
      let both : List Act = Accepted true ∷ HandedOut (last + 1) is_taken ∷ [] in
      let handed : v ≡ and_then u (HandedOut (last + 1) is_taken ∷ []) = subst (λ n. v ≡ and_then u (HandedOut n is_taken ∷ [])) one g in
      subst (λ n. Does (LetsIn until last n) s v) (sym (is ∙ ap (λ n. goes_on until n is_taken) one)) (
        acts ++ both,
        more s t v acts both e (more t u v (Accepted true ∷ []) (HandedOut (last + 1) is_taken ∷ []) f handed),
        let_in acts is_taken w,
      )

-- ---- all connections

-- what was done so far: so many have come, and whatever is done from there on, all of it accepts connections
abbrev pub Leads : Until → Told → Told → ℕ → Type 0
Leads until s t last = (acts : List Act) × (t ≡ and_then s acts) × ((rest : List Act) → Accepts until last rest → Accepts until 0 (acts ++ rest))

pub leads_none : (until : Until) (s : Told) → Leads until s s 0
leads_none until s = ([], still s, λ rest a. a)

pub leads_on : (until : Until) (last next : ℕ) (s t u : Told) → Leads until s t last → Does (LetsIn until last (Some next)) t u → Leads until s u next
leads_on until last next s t u (acts, e, f) (one, g, l) = (
  acts ++ one,
  more s t u acts one e g,
  λ rest a. subst (Accepts until 0) (sym (append_assoc acts one rest)) (f (one ++ rest) (goes last next one rest l a)),
)

pub leads_last : (until : Until) (last : ℕ) (s t u : Told) → Leads until s t last → Does (LetsIn until last None) t u → Does (Accepts until 0) s u
leads_last until last s t u (acts, e, f) (one, g, l) = (acts ++ one, more s t u acts one e g, f one (ends last one l))
