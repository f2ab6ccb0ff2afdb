use Rattle.std.proofs.Common.{◌≡◌, ℕ, ◌++◌, List, Option, Some, None, ap, string_bytes}
use Rattle.std.specs.Prelude.{Result, Ok, Err, OnOk, codes, is_ok, if◌then◌else◌}
use Rattle.rk_daemon.specs.Ending.{error_text}
use Rattle.rk_daemon.proofs.ending.put_error.Goals as goal

-- the text, by what is known of the error number
text_of : (error known : Option ℕ) → error ≡ known → error_text error ≡ error_text known
text_of error known e = ap error_text e

-- a text that is longer where it could be
where_ok : {T E : Type 0} → (r : Result T E) (new old more : List ℕ) → new ≡ (if is_ok r then old ++ more else old) → OnOk r (new ≡ old ++ more)
where_ok (Ok x) new old more e = e
where_ok (Err x) new old more e = tt

pub returns-in-Some : goal.returns-in-Some
returns-in-Some c = rw (text_of c.args.error (Some c.in-Some.number) c.in-Some.is) c.put_named.ensures

pub returns-in-None : goal.returns-in-None
returns-in-None c =
    rw (text_of c.args.error None c.in-None.is)
    (where_ok c.push_str.result (string_bytes c.push_str.new.self) (string_bytes c.args.text.now) (codes "start failed") c.push_str.ensures.bytes)
