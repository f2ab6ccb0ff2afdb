use Rattle.std.proofs.Common.{◌≡◌, ◌∷◌, ◌++◌, [], Some, None}
use Rattle.std.proofs.lemmas.Bool.Decides.{Decides-eqb}
use Rattle.std.proofs.lemmas.Slice.Eq.{slice_eq-Decides, ends_is, strip_prefix_is, strip_suffix_is}
use Rattle.rk_glob.specs.Wildcard.{star}
use Rattle.rk_glob.proofs.Joined.{plain_fits_itself_alone}
use Rattle.rk_glob.proofs.Ends.{head_is_read, tail_is_read, no_head, no_tail, star_then, cut_behind}
use Rattle.rk_glob.proofs.matches.Goals as goal

pub returns-in_default : goal.returns-in_default
returns-in_default c =
    let same = slice_eq-Decides Decides-eqb c.args.pattern.now c.args.text.now c.eq.result c.eq.ensures in
    let alone = plain_fits_itself_alone c.args.pattern.now c.args.text.now c.in_default.ensures.none in
    (λ h. alone.1 (same.0 h), λ h. same.1 (alone.0 h))

pub returns-in_default-strip_prefix : goal.returns-in_default-strip_prefix
returns-in_default-strip_prefix c =
    let missing = strip_prefix_is Decides-eqb c.args.text.now c.in-Some.head.now None c.in_default-strip_prefix.ensures.cases in
    (λ h. absurd (cc), λ h. absurd (no_head c.args.pattern.now c.args.text.now c.in-Some.head.now (star ∷ c.in-Some.rest.now) c.in-Some.ensures.whole c.in-Some.ensures.before missing h))

pub returns-in_default-cut_at_last : goal.returns-in_default-cut_at_last
returns-in_default-cut_at_last c =
    let head = c.in-Some.head.now in
    let rest = c.in-Some.rest.now in
    let text = c.in-Some-strip_prefix.text.now in
    let whole = strip_prefix_is Decides-eqb c.args.text.now head (Some c.in-Some-strip_prefix.text) c.in-Some-strip_prefix.ensures.cases in
    let after = head_is_read c.args.pattern.now c.args.text.now head (star ∷ rest) text c.in-Some.ensures.whole c.in-Some.ensures.before whole in
    let end = star_then text rest c.in_default-cut_at_last.ensures.none in
    let told = ends_is Decides-eqb text rest c.ends_with.result c.ends_with.ensures.value in
    (λ h. after.1 (end.1 (_, told.0 h)), λ h. let s = end.0 (after.0 h) in told.1 s.0 s.1)

pub returns-in-Some-strip_suffix : goal.returns-in-Some-strip_suffix
returns-in-Some-strip_suffix c =
    let head = c.in-Some.head.now in
    let rest = c.in-Some.rest.now in
    let middle = c.in-Some-cut_at_last.middle.now in
    let tail = c.in-Some-cut_at_last.tail.now in
    let text = c.in-Some-strip_prefix.text.now in
    let whole = strip_prefix_is Decides-eqb c.args.text.now head (Some c.in-Some-strip_prefix.text) c.in-Some-strip_prefix.ensures.cases in
    let after = head_is_read c.args.pattern.now c.args.text.now head (star ∷ rest) text c.in-Some.ensures.whole c.in-Some.ensures.before whole in
    let front = strip_suffix_is Decides-eqb text tail (Some c.in-Some-strip_suffix.text) c.in-Some-strip_suffix.ensures.cases in
    let parts : star ∷ rest ≡ (star ∷ middle ++ star ∷ []) ++ tail = cut_behind rest middle tail c.in-Some-cut_at_last.ensures.whole in
    let within = tail_is_read (star ∷ rest) text (star ∷ middle ++ star ∷ []) tail c.in-Some-strip_suffix.text.now parts c.in-Some-cut_at_last.ensures.after front in
    (λ h. after.1 (within.1 (c.fits_within.ensures.0 h)), λ h. c.fits_within.ensures.1 (within.0 (after.0 h)))

pub returns-in-None : goal.returns-in-None
returns-in-None c =
    let head = c.in-Some.head.now in
    let rest = c.in-Some.rest.now in
    let middle = c.in-Some-cut_at_last.middle.now in
    let tail = c.in-Some-cut_at_last.tail.now in
    let text = c.in-Some-strip_prefix.text.now in
    let whole = strip_prefix_is Decides-eqb c.args.text.now head (Some c.in-Some-strip_prefix.text) c.in-Some-strip_prefix.ensures.cases in
    let after = head_is_read c.args.pattern.now c.args.text.now head (star ∷ rest) text c.in-Some.ensures.whole c.in-Some.ensures.before whole in
    let missing = strip_suffix_is Decides-eqb text tail None c.in-None.ensures.cases in
    let parts : star ∷ rest ≡ (star ∷ middle ++ star ∷ []) ++ tail = cut_behind rest middle tail c.in-Some-cut_at_last.ensures.whole in
    (λ h. absurd (cc), λ h. absurd (no_tail (star ∷ rest) text (star ∷ middle ++ star ∷ []) tail parts c.in-Some-cut_at_last.ensures.after missing (after.0 h)))
