-- What is looked after each second.
use Rattle.std.proofs.Common.{◌≡◌, ◌<◌, ◌/◌, ℕ, Bool, true, false, List, [], ◌∷◌, ◌++◌, Option, sym, subst}
use Rattle.rk_hall.specs.declared.counts.Counts.{Counts}
use Rattle.rk_record.specs.declared.hall_no.HallNo.TheVariants.{Zero, One, Two, Three}
use Rattle.rk_daemon.specs.declared.figures.Clients.{Clients}
use Rattle.rk_daemon.specs.declared.figures.Figures.{Figures}
use Rattle.rk_daemon.specs.declared.figures.InHalls.{InHalls}
use Rattle.rk_daemon.specs.declared.figures.InRun.{InRun}
use Rattle.rk_daemon.specs.declared.settings.LogSettings.{LogSettings}
use Rattle.rk_daemon.specs.InHalls.{in_halls}
use Rattle.rk_daemon.specs.Post as post
use Rattle.rk_daemon.specs.Post.{Act, Counted, CountsHalls, FoundClients, FoundHandlers, FoundVolumes, Looked, LooksAfter, TellsDue, TellsFigures, TellsSlow, Told, ToldLeftOut, ToldSlow, is_due}
use Rattle.rk_daemon.specs.Story.{Does, and_then}
use Rattle.rk_daemon.proofs.Stories.{more, still}

abbrev Story : Type 0
Story = Option (List Act)

pub counted_all : (z o t h : Counts) (i : InHalls) (a b c d e : Story) → b ≡ and_then a (Counted Zero z ∷ []) → c ≡ and_then b (Counted One o ∷ [])
    → d ≡ and_then c (Counted Two t ∷ []) → e ≡ and_then d (Counted Three h ∷ []) → i ≡ in_halls z o t h → Does (CountsHalls i) a e
counted_all z o t h i a b c d e f g k l is = subst (λ j. Does (CountsHalls j) a e) (sym is) (
  Counted Zero z ∷ Counted One o ∷ Counted Two t ∷ Counted Three h ∷ [],
  more a b e (Counted Zero z ∷ []) (Counted One o ∷ Counted Two t ∷ Counted Three h ∷ []) f
      (more b c e (Counted One o ∷ []) (Counted Two t ∷ Counted Three h ∷ []) g (more c d e (Counted Two t ∷ []) (Counted Three h ∷ []) k l)),
  post.halls z o t h,
)

pub told_all : (now v : ℕ) (c : Clients) (r : InRun) (i : InHalls) (s t u w x y : Story) → t ≡ and_then s (FoundClients c ∷ [])
    → u ≡ and_then t (FoundHandlers now r ∷ []) → Does (CountsHalls i) u w → x ≡ and_then w (FoundVolumes v ∷ [])
    → y ≡ and_then x (Told (record { clients = c; handlers = r; halls = i; volumes = v }) ∷ []) → Does (TellsFigures now) s y
told_all now v c r i s t u w x y f g (acts, e, h) k l =
    let end : List Act = FoundVolumes v ∷ Told (record { clients = c; handlers = r; halls = i; volumes = v }) ∷ [] in
    let last : y ≡ and_then w end = more w x y (FoundVolumes v ∷ []) (Told (record { clients = c; handlers = r; halls = i; volumes = v }) ∷ []) k l in
    let behind : y ≡ and_then u (acts ++ end) = more u w y acts end e last in (
      FoundClients c ∷ FoundHandlers now r ∷ (acts ++ end),
      more s t y (FoundClients c ∷ []) (FoundHandlers now r ∷ (acts ++ end)) f (more t u y (FoundHandlers now r ∷ []) (acts ++ end) g behind),
      post.figured c r i v acts h,
    )

pub told_slow : (now seconds as_long : ℕ) (s t : Story) → 0 < seconds → as_long ≡ seconds → t ≡ and_then s (ToldSlow now as_long ∷ [])
    → Does (TellsSlow now seconds) s t
told_slow now seconds as_long s t some is e =
    (ToldSlow now seconds ∷ [], subst (λ n. t ≡ and_then s (ToldSlow now n ∷ [])) is e, post.slow_ones seconds some)

pub told_none : (now seconds : ℕ) (s : Story) → seconds ≡ 0 → Does (TellsSlow now seconds) s s
told_none now seconds s none = subst (λ n. Does (TellsSlow now n) s s) (sym none) ([], still s, post.never)

pub told_due : (now seconds told next : ℕ) (s t : Story) → is_due told now seconds ≡ true → next ≡ now → Does (TellsFigures now) s t
    → Does (TellsDue now seconds told next) s t
told_due now seconds told next s t is e (acts, f, a) =
    subst (λ n. Does (TellsDue now seconds told n) s t) (sym e) (acts, f, post.due told acts is a)

pub told_early : (now seconds told next : ℕ) (s : Story) → is_due told now seconds ≡ false → next ≡ told → Does (TellsDue now seconds told next) s s
told_early now seconds told next s is e = subst (λ n. Does (TellsDue now seconds told n) s s) (sym e) ([], still s, post.early told is)

pub looked_after : (settings : LogSettings) (now minute told next : ℕ) (s t u v w : Story) → t ≡ and_then s (Looked now ∷ [])
    → u ≡ and_then t (ToldLeftOut minute ∷ []) → minute ≡ now / 60 → Does (TellsSlow now settings.slow) u v → Does (TellsDue now settings.status told next) v w
    → Does (LooksAfter settings told next) s w
looked_after settings now minute told next s t u v w f g is (slow, e, a) (figures, h, b) =
    let both : w ≡ and_then u (slow ++ figures) = more u v w slow figures e h in
    let out : u ≡ and_then t (ToldLeftOut (now / 60) ∷ []) = subst (λ m. u ≡ and_then t (ToldLeftOut m ∷ [])) is g in (
      Looked now ∷ ToldLeftOut (now / 60) ∷ (slow ++ figures),
      more s t w (Looked now ∷ []) (ToldLeftOut (now / 60) ∷ (slow ++ figures)) f (more t u w (ToldLeftOut (now / 60) ∷ []) (slow ++ figures) out both),
      post.looks now told next slow figures a b,
    )
