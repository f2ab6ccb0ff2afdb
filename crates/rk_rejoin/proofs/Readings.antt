-- What is read, one file after the other.
use Rattle.rk_rejoin.proofs.Words.{◌≡◌, ◌<◌, ◌+◌, ℕ, List, [], ◌∷◌, ◌++◌, length, map, take, drop, get_or, Option, Some, None, refl, sym, ap, ◌∙◌, inl, inr}
use Rattle.rk_rejoin.proofs.Words.{append_assoc, drop_more, map-append, map_more, map_push, take-append-drop, all_zipped_more, AllByRecursion, IsPermutation}
use Rattle.rk_rejoin.proofs.Words.{IsSortedByKey, HallNo, Stored, FilesFault, NoMemory, Total, run_of, run_of_first, Reading, Reads, ReadsOne, and_then}
use Rattle.rk_rejoin.proofs.Words.{AreClosedAlike, IsRecordOf, negative_of, part_of, AreOfFiles, AreRead, IsVolumeIn, rank_cmp, rank_of, AreRejoined}
use Rattle.rk_rejoin.proofs.Words.{AreRefused, AreUnread, IsNoVolumeIn}
use Rattle.std.proofs.lemmas.List.{append-nil}
use Rattle.rk_record.specs.declared.hall_no.HallNo.TheVariants as hall

abbrev Told : Type 0
Told = Option (List Reading)

twice : (story : Told) (x y : List Reading) → and_then (and_then story x) y ≡ and_then story (x ++ y)
twice None x y = refl
twice (Some s) x y = ap Some (append_assoc s x y)

further : (s t u : Told) (x y : List Reading) → t ≡ and_then s x → u ≡ and_then t y → u ≡ and_then s (x ++ y)
further s t u x y e f = f ∙ ap (λ (v : Told). and_then v y) e ∙ twice s x y

still : (s : Told) → s ≡ and_then s []
still None = refl
still (Some s) = ap Some (sym (append-nil s))

-- of no file, no volume was read
pub none_read : (s : Told) → Reads (AreRead [] []) s s
none_read s = ([], still s, record { paths = refl; volumes = tt })

-- the volumes that were read, in order
pub in_order : (files : List (List ℕ)) (read vs : List Stored) (s t : Told) → Reads (AreRead files read) s t → IsPermutation read vs
    → IsSortedByKey rank_of rank_cmp vs → Reads (AreOfFiles files vs) s t
in_order files read vs s t (readings, told, are) same sorted = (readings, told, (read, are, same, sorted))

-- the halls, one by one
of_each : (negative : ℕ) (vs : List Stored) (total : Total) → IsRecordOf negative vs hall.Zero total.zero → IsRecordOf negative vs hall.One total.one
    → IsRecordOf negative vs hall.Two total.two → IsRecordOf negative vs hall.Three total.three → (h : HallNo) → IsRecordOf negative vs h (part_of total h)
of_each negative vs total zero one two three hall.Zero = zero
of_each negative vs total zero one two three hall.One = one
of_each negative vs total zero one two three hall.Two = two
of_each negative vs total zero one two three hall.Three = three

-- what is judged of the volumes of files
pub rejoined : (files : List (List ℕ)) (vs : List Stored) (s t : Told) → Reads (AreOfFiles files vs) s t → (total : Total)
    → AllByRecursion (λ v. v.head.negative ≡ negative_of vs) vs → IsRecordOf (negative_of vs) vs hall.Zero total.zero
    → IsRecordOf (negative_of vs) vs hall.One total.one → IsRecordOf (negative_of vs) vs hall.Two total.two
    → IsRecordOf (negative_of vs) vs hall.Three total.three → AllByRecursion (λ v. run_of v ≡ run_of_first vs) vs → AreClosedAlike total
    → Reads (AreRejoined files total) s t
rejoined files vs s t (readings, told, are) total negative zero one two three run closed =
    let halls = of_each (negative_of vs) vs total zero one two three in
    (readings, told, record { volumes = vs; read = are; negative = negative; run = run; halls = halls; closed = closed })

-- files that were not all read are no record
pub unread : (files : List (List ℕ)) (f : FilesFault) (s t : Told) → Reads (AreUnread files f) s t → Reads (AreRefused files f) s t
unread files f s t (readings, told, are) = (readings, told, inl are)

-- memory ran out after some of the files
pub ran_out : (files before after : List (List ℕ)) (vs : List Stored) (s t : Told) → files ≡ before ++ after → Reads (AreRead before vs) s t
    → Reads (AreUnread files NoMemory) s t
ran_out files before after vs s t place (readings, told, are) =
    (readings, told, inr (record { before = before; after = after; volumes = vs; place = place; read = are; memory = refl }))

-- a file more, after those that were read
module _ {A : Type 0} (f : A → List ℕ) (files : List A) (i : ℕ) (file : A) (name : List ℕ) (s t u : Told) (vs : List Stored) (lt : i < length files)
    (is : file ≡ get_or files i file) (spelled : name ≡ f file) (had : Reads (AreRead (map f (take i files)) vs) s t) where
  named : map f (take (i + 1) files) ≡ map f (take i files) ++ f file ∷ []
  named = map_more f files i file lt ∙ ap (λ (x : A). map f (take i files) ++ f x ∷ []) (sym is)

  split : (n : ℕ) → map f files ≡ map f (take n files) ++ map f (drop n files)
  split n = ap (map f) (sym (take-append-drop n files)) ∙ map-append f (take n files) (drop n files)

  cut : map f files ≡ map f (take i files) ++ (f file ∷ map f (drop (i + 1) files))
  cut =
      let rest : drop i files ≡ file ∷ drop (i + 1) files = drop_more files i file lt ∙ ap (λ (x : A). x ∷ drop (i + 1) files) (sym is) in
      split i ∙ ap (λ (x : List A). map f (take i files) ++ map f x) rest

  -- it is a volume
  pub one_more : (v : Stored) → ReadsOne name (λ (r : Reading). IsVolumeIn r v) t u → Reads (AreRead (map f (take (i + 1) files)) (vs ++ v ∷ [])) s u
  one_more v (last, path, told, is_volume) = (
    had.0 ++ last ∷ [],
    further s t u had.0 (last ∷ []) had.1 told,
    record {
      paths = map_push (λ (r : Reading). r.path) had.0 last
          ∙ ap (λ (paths : List (List ℕ)). paths ++ last.path ∷ []) had.2.paths
          ∙ ap (λ (p : List ℕ). map f (take i files) ++ p ∷ []) (path ∙ spelled)
          ∙ sym named;
      volumes = all_zipped_more IsVolumeIn had.0 vs last v had.2.volumes is_volume;
    },
  )

  -- it is one, and then memory ran out
  pub out_after : (v : Stored) → ReadsOne name (λ (r : Reading). IsVolumeIn r v) t u → Reads (AreUnread (map f files) NoMemory) s u
  out_after v next = ran_out (map f files) (map f (take (i + 1) files)) (map f (drop (i + 1) files)) (vs ++ v ∷ []) s u (split (i + 1)) (one_more v next)

  -- it is none
  pub stops : (fault : FilesFault) → ReadsOne name (λ (r : Reading). IsNoVolumeIn r fault) t u → Reads (AreUnread (map f files) fault) s u
  stops fault (last, path, told, is_none) = (
    had.0 ++ last ∷ [],
    further s t u had.0 (last ∷ []) had.1 told,
    inl (record {
      before = map f (take i files);
      after = map f (drop (i + 1) files);
      volumes = vs;
      had = had.0;
      last = last;
      place = cut ∙ ap (λ (p : List ℕ). map f (take i files) ++ (p ∷ map f (drop (i + 1) files))) (sym (path ∙ spelled));
      read = had.2;
      all = refl;
      fault = is_none;
    }),
  )
