-- What is shown only grows.
use Rattle.{std.proofs.Common.{rules, ◌≡◌, ℕ, Option, Some, None, List, [], ◌∷◌, ◌++◌, refl, sym, ap, ◌∙◌, ◌≤◌, length}, desk_gallery.specs.declared.book.LogEntry.LogEntry}
use Rattle.{desk_gallery.specs.Rules.{key_after, chained, weighed, lists_of, shown_of, NoneBy}, desk_model.specs.declared.command.Command.Command}
use Rattle.desk_gallery.proofs.{Chaining.{chained_on, chained_more, begins_whole}, Pasts.{prefix_self, prefix_shorter, prefix_trans}}
use mathlib.Core.List.{IsPrefix}

pub weighed_on : (s : List Command × List Command) (xs ys : List (Option Command)) → weighed s (xs ++ ys) ≡ weighed (weighed s xs) ys
weighed_on s [] ys = refl
weighed_on s (Some c ∷ xs) ys = weighed_on (s.0, s.1 ++ c ∷ []) xs ys
weighed_on s (None ∷ xs) ys = weighed_on (s.1, s.1) xs ys

-- what is shown is a beginning of what is shown later, and of all there is then
grows : (s : List Command × List Command) (xs : List (Option Command)) → IsPrefix s.0 s.1 → IsPrefix s.0 (weighed s xs).0 × IsPrefix (weighed s xs).0 (weighed s xs).1
grows s [] p = (prefix_self s.0, p)
grows s (Some c ∷ xs) p = grows (s.0, s.1 ++ c ∷ []) xs (prefix_trans s.0 s.1 (s.1 ++ c ∷ []) p (c ∷ [], refl))
grows s (None ∷ xs) p = let rest = grows (s.1, s.1) xs (prefix_self s.1) in (prefix_trans s.0 s.1 (weighed (s.1, s.1) xs).0 p rest.0, rest.1)

-- of two beginnings of one list of acts, the shorter shows a beginning of what the longer shows
pub shown_begins : (xs zs : List (Option Command)) → IsPrefix xs zs → IsPrefix (weighed ([], []) xs).0 (weighed ([], []) zs).0
shown_begins xs zs p = search (rules, weighed_on ([], []) xs p.0, (grows (weighed ([], []) xs) p.0 (grows ([], []) xs ([], refl)).1).0)

-- of two beginnings of one log, the shorter shows a beginning of what the longer shows
log_begins : (k : ℕ) (xs zs : List LogEntry) → IsPrefix xs zs → IsPrefix (shown_of k xs) (shown_of k zs)
log_begins k xs zs p = shown_begins (chained k xs) (chained k zs) (chained (key_after k xs) p.0, sym (chained_on k xs p.0) ∙ ap (chained k) p.1)

-- and so what the one shows that shows no more begins what the other shows
pub begins_other : (k : ℕ) (own theirs both : List LogEntry) → IsPrefix own both → IsPrefix theirs both → length (shown_of k own) ≤ length (shown_of k theirs) → IsPrefix (shown_of k own) (shown_of k theirs)
begins_other k own theirs both p q less = prefix_shorter (shown_of k own) (shown_of k theirs) (shown_of k both) (log_begins k own both p) (log_begins k theirs both q) less

-- whoever has seen some of the log knows of no more than who has the key that is next
pub whole_begins : (k : ℕ) (xs ys zs : List LogEntry) → IsPrefix xs zs → IsPrefix ys zs → NoneBy (key_after k xs) zs → IsPrefix (shown_of k ys) (shown_of k xs)
whole_begins k xs ys zs p q none = shown_begins (chained k ys) (chained k xs) (begins_whole k xs ys zs p q none)

-- an entry that uses up the key that is next
pub lists_more : (k : ℕ) (xs rest : List LogEntry) (e : LogEntry) → e.by ≡ key_after k xs → NoneBy (key_after k xs) rest → lists_of k (xs ++ rest ++ e ∷ []) ≡ weighed (lists_of k xs) (e.what ∷ [])
lists_more k xs rest e same none = ap (weighed ([], [])) (chained_more k xs rest e same none) ∙ weighed_on ([], []) (chained k xs) (e.what ∷ [])
