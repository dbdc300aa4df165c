-- Which options of `check` go together, and the values of those that aren't paths.
use Rattle.{std.specs.{Char.is_ascii_digit, List.list_all, Option.{option_and_then, option_flatten}, Str.Parse.digits_value}, command_line.specs.Sizes.size_reckoned}
use Rattle.std.specs.Prelude.{◌≡◌, true, false, ℕ, ◌≤◌, Bool, not, ◌&&◌, ◌||◌, nat_le, if◌then◌else◌, List, Option, Some, None, is_some, IsSome, IfSome, IsTrue, option_map}
use Rattle.command_line.specs.declared.options.{AuditOptions.AuditOptions, Form.{Form, TheVariants.{Counts, Audit}}, Patience.Patience, Serving.Serving, Size.Size}
use Rattle.desk_model.specs.{claim.{Companions.takes, Sizes.{kind_named, most_districts}}, declared.{companions.Companions.Companions, kind.Kind.Kind}}
use Rattle.{desk_model.specs.declared.kind.Kind.TheVariants.{Congress, Senate}, state_files.specs.Opens.AreAlike}

-- the number that digits alone write, however many, where it is 1 to `most`
abbrev pub number_to : ℕ → List ℕ → Option ℕ
number_to most text =
    if list_all is_ascii_digit text && nat_le 1 (digits_value 10 text) && nat_le (digits_value 10 text) most then Some (digits_value 10 text)
    else None

-- a function's value, where both it and its argument are there
abbrev pub given : {A B : Type 0} → Option (A → B) → Option A → Option B
given None a = None
given (Some f) a = option_map f a

abbrev pub at_least : ℕ → Option ℕ → Option ℕ
at_least least n = option_and_then (λ (m : ℕ). if nat_le least m then Some m else None) n

-- its number of sectors, and that of its journal's pages, where both are there and in range
abbrev pub size_read : Option (List ℕ) → Option (List ℕ) → Option Size
size_read None journal = None
size_read (Some sectors) None = None
size_read (Some sectors) (Some journal) =
    given (option_map (λ (s p : ℕ). record { sectors = s; journal_pages = p }) (number_to 4294967295 sectors)) (at_least 256 (number_to 65536 journal))

-- the number of a word, and this one where there is none
abbrev pub number_or : Option ℕ → ℕ → Option (List ℕ) → Option ℕ
number_or usual most None = usual
number_or usual most (Some text) = number_to most text

abbrev pub number_given : ℕ → Option (List ℕ) → Option ℕ
number_given most word = number_or None most word

-- its size by what it is to hold, where all of it is there and in range
abbrev pub reckoned_read : (blocks counties plans revisions : Option (List ℕ)) → Option Size
reckoned_read blocks counties plans revisions = option_flatten
    (given (given (given (option_map size_reckoned (number_given 1048576 blocks)) (number_given 1000 counties)) (number_given 65535 plans)) (number_given 65535 revisions))

-- its size in one of the two forms, and whether it is the one that is reckoned; none where words of both are there
abbrev pub format_read : (sectors journal blocks counties plans revisions : Option (List ℕ)) → Option (Size × Bool)
format_read sectors journal blocks counties plans revisions =
    if not (is_some blocks) && not (is_some counties) && not (is_some plans) && not (is_some revisions) then option_map (λ (size : Size). (size, false)) (size_read sectors journal)
    else if is_some sectors || is_some journal then None
    else option_map (λ (size : Size). (size, true)) (reckoned_read blocks counties plans revisions)

pub record IsSize (size : Size) : Type 0 where
  pub some : 1 ≤ size.sectors
  pub least : 256 ≤ size.journal_pages
  pub most : size.journal_pages ≤ 65536

-- for how many seconds something is waited for, and so many where nothing says it
abbrev pub seconds_read : (usual : ℕ) → Option (List ℕ) → Option ℕ
seconds_read usual word = number_or (Some usual) 86400 word

-- how many threads serve, 16 where nothing says it
abbrev pub serving_workers_read : Option (List ℕ) → Option ℕ
serving_workers_read word = number_or (Some 16) 64 word

-- after how many connections it ends, and never where nothing says it
abbrev pub connections_read : Option (List ℕ) → Option (Option ℕ)
connections_read None = Some None
connections_read (Some text) = option_map Some (number_to 4294967295 text)

-- the seconds between two times that something is done, and never where nothing says it
abbrev pub interval_read : Option (List ℕ) → Option (Option ℕ)
interval_read None = Some None
interval_read (Some text) = option_map Some (number_to 86400 text)

-- for how long a connection is kept: 5 seconds between requests, 60 of silence within one, and 300 for all of one, where nothing says it
abbrev pub patience_read : (keep idle request : Option (List ℕ)) → Option Patience
patience_read keep idle request =
    given (given (option_map (λ (k i r : ℕ). record { keep = k; idle = i; request = r }) (seconds_read 5 keep)) (seconds_read 60 idle)) (seconds_read 300 request)

-- the port, the numbers of workers and connections, for how long one is kept, and whether it is swept beside, where the port is there and
-- all are in range
abbrev pub serving_read : (port workers connections keep idle request : Option (List ℕ)) → (sweeps : Bool) → Option Serving
serving_read None workers connections keep idle request sweeps = None
serving_read (Some port) workers connections keep idle request sweeps =
    let made : ℕ → ℕ → Option ℕ → Patience → Serving = λ p w c k. record { port = p; workers = w; connections = c; patience = k; sweeps = sweeps } in
    given (given (given (option_map made (number_to 65535 port)) (serving_workers_read workers)) (connections_read connections)) (patience_read keep idle request)

pub record IsPatience (patience : Patience) : Type 0 where
  pub some : 1 ≤ patience.keep
  pub day : patience.keep ≤ 86400
  pub idle : 1 ≤ patience.idle
  pub idle_day : patience.idle ≤ 86400
  pub request : 1 ≤ patience.request
  pub request_day : patience.request ≤ 86400

-- a day at most
pub record IsInterval (seconds : ℕ) : Type 0 where
  pub some : 1 ≤ seconds
  pub day : seconds ≤ 86400

pub record IsServing (serving : Serving) : Type 0 where
  pub port : 1 ≤ serving.port
  pub working : 1 ≤ serving.workers
  pub few : serving.workers ≤ 64
  pub some : IfSome serving.connections (λ (n : ℕ). 1 ≤ n)
  pub patience : IsPatience serving.patience

-- the number of workers, one where nothing says it
abbrev pub workers_read : Option (List ℕ) → Option ℕ
workers_read word = number_or (Some 1) 64 word

-- the districts of a companion, which goes with the kinds of plans that take it, and where both of its options are there
abbrev pub beside_read : (beside kind : Kind) → Bool → Option (List ℕ) → Option (Option ℕ)
beside_read beside k file None = if file then None else Some None
beside_read beside k file (Some text) = if file && takes beside k then option_map Some (number_to (most_districts beside) text) else None

-- of each companion, by whether its file is given and by the word for its number of districts
abbrev pub companions_read : Kind → (senate congress : Bool) → (words : Companions (List ℕ)) → Option (Companions ℕ)
companions_read k senate congress words =
    given (option_map (λ (s c : Option ℕ). record { senate = s; congress = c }) (beside_read Senate k senate words.senate)) (beside_read Congress k congress words.congress)

-- what is audited, where the words say it
abbrev pub terms_read : (word districts : List ℕ) → (senate congress : Bool) → (words : Companions (List ℕ)) → Option AuditOptions
terms_read word districts senate congress words = option_and_then (λ (k : Kind).
    given (option_map (λ (n : ℕ) (beside : Companions ℕ). record { kind = k; districts = n; beside = beside }) (number_to (most_districts k) districts))
    (companions_read k senate congress words)) (kind_named word)

-- whether there is any companion
abbrev pub is_any : {X : Type 0} → Companions X → Bool
is_any beside = is_some beside.senate || is_some beside.congress

-- The form of the command: with the neighbour file, the plan, its kind and its number of districts the audit; with no option but the census
-- files the counts.
abbrev pub form_read : (gal plan : Bool) (word districts : Option (List ℕ))
    → (senate congress : Bool) → (words : Companions (List ℕ)) → Option Form
form_read gal plan None None senate congress words = if gal || plan || (senate || congress) || is_any words then None else Some Counts
form_read gal plan None (Some districts) senate congress words = None
form_read gal plan (Some word) None senate congress words = None
form_read gal plan (Some word) (Some districts) senate congress words =
    if gal && plan then option_map Audit (terms_read word districts senate congress words) else None

-- what an audit may be asked for
pub record AreTerms (t : AuditOptions) : Type 0 where
  pub some : 1 ≤ t.districts
  pub few : t.districts ≤ 999
  pub senate : IsSome t.beside.senate → IsTrue (takes Senate t.kind)
  pub congress : IsSome t.beside.congress → IsTrue (takes Congress t.kind)

-- the companions are those whose files are given
abbrev pub HasCompanions : {X : Type 0} → Companions X → Form → Type 0
HasCompanions files Counts = is_any files ≡ false
HasCompanions files (Audit terms) = AreAlike files terms.beside

abbrev pub IsForm : Form → Type 0
IsForm Counts = Unit {0}
IsForm (Audit terms) = AreTerms terms

-- ---- what reading an option tells
-- the answer is this one, and a value that is given is so
pub record Gives {A : Type 0} (answer : Option A) (so : A → Type 0) (result : Option A) : Type 0 where
  pub value : result ≡ answer
  pub valid : IfSome result so

-- the answer is this one, and a number that is given is from `least` to `most`
pub record GivesNumber (answer : Option ℕ) (least most : ℕ) (result : Option ℕ) : Type 0 where
  pub value : result ≡ answer
  pub some : IfSome result (λ n. least ≤ n)
  pub few : IfSome result (λ n. n ≤ most)
