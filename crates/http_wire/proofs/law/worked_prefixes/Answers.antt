use Rattle.std.{specs.{List.list_all, Str.IsUtf8}, proofs.Common.{◌≡◌, ◌<◌, ◌≤◌, ℕ, true, List, [], ◌∷◌, length, codes, refl, inl, inr, All, rules}}
use Rattle.{std.proofs.lemmas.List.{Elements.{All-nil, All-cons}, Sums.AllPass-from_list_all}, http_wire.specs.declared.head.Framing.TheVariants.Sized}
use Rattle.httparse.{specs.Grammar.{is_token_byte, is_uri_byte, is_value_byte, Field, IsField, crlf, RequestHead, IsRequestHead}, proofs.OnLiterals.httparse_on_literals}
use Rattle.http_wire.proofs.law.worked_prefixes.Goals as goal

-- a field by its name and what follows the colon
abbrev field : List ℕ → List ℕ → Field
field name raw = record { name = name; raw = raw; end = crlf }

-- a head by its version, its method, its target and its fields
abbrev head : ℕ → List ℕ → List ℕ → List Field → RequestHead
head minor method target fields = record { blank = []; method = method; target = target; minor = minor; line_end = crlf; fields = fields; last = crlf }

field_ok : (name raw : List ℕ) → list_all is_token_byte name ≡ true → list_all is_value_byte raw ≡ true → 0 < length name → IsField (field name raw)
field_ok name raw n r some = search (rules, AllPass-from_list_all)

head_ok : (minor : ℕ) (method target : List ℕ) (fs : List Field) → minor ≤ 1 → list_all is_token_byte method ≡ true → list_all is_uri_byte target ≡ true
    → 0 < length method → 0 < length target → IsUtf8 target → All IsField fs → IsRequestHead (head minor method target fs)
head_ok minor method target fs small m t some present text ok = search (rules, AllPass-from_list_all)

abbrev host : Field
host = field (codes "Host") (codes " d")

pub returns : goal.returns
unfolding httparse_on_literals lib.Utf8.encode
returns c = record {
  plans = (
    head 1 (codes "GET") (codes "/plans") (host ∷ []),
    refl,
    record {
      message = record { head = search (rules, head_ok, All-cons, field_ok, All-nil); text = []; framing = Sized 0; judges = refl; stands = (refl, refl) };
      target_is = refl;
    },
  );
  absolute = (
    head 0 (codes "HEAD") (codes "http://d?x=1") [],
    refl,
    refl,
    record { message = record { head = search (rules, head_ok, All-nil); text = []; framing = Sized 0; judges = refl; stands = (refl, refl) }; target_is = refl },
  );
  no_host = inr (inl (record { head = head 1 (codes "GET") (codes "/plans") []; rest = []; stands = search (rules, head_ok, All-nil); judges = refl; shown = refl }));
  coded = inr (inl (record {
    head = head 1 (codes "PUT") (codes "/plans/a") (host ∷ field (codes "Content-Length") (codes " 1") ∷ field (codes "Transfer-Encoding") (codes " chunked") ∷ []);
    rest = [];
    stands = search (rules, head_ok, All-cons, field_ok, All-nil) depth 9;
    judges = refl;
    shown = refl;
  }));
}
