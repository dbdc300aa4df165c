-- The methods that pages take.
use Rattle.std.specs.{Prelude.{ℕ, Bool, ◌||◌, List, codes}, Str.bytes_eq}
use Rattle.http_desk_routes.specs.declared.{method.Methods.{Methods, TheVariants.{Look, Make, Post}}, route.Route.Route}
use Rattle.http_desk_routes.specs.declared.route.Route.TheVariants as route

-- the method is the word; case matters (RFC 9110, section 9.1)
abbrev pub is_method : List ℕ → List ℕ → Bool
is_method word method = bytes_eq method word

abbrev pub is_known : List ℕ → Bool
is_known method = is_method (codes "GET") method || is_method (codes "HEAD") method || is_method (codes "PUT") method || is_method (codes "POST") method || is_method (codes "DELETE") method

abbrev pub methods_of : Route → Methods
methods_of route.Blocks = Look
methods_of route.Plans = Look
methods_of route.Plan = Make
methods_of route.Revisions = Post
methods_of route.Counties = Post
methods_of route.Revision = Look
methods_of route.Audit = Look

abbrev pub takes : Methods → List ℕ → Bool
takes Look method = is_method (codes "GET") method || is_method (codes "HEAD") method
takes Make method = is_method (codes "PUT") method || is_method (codes "POST") method || is_method (codes "DELETE") method
takes Post method = is_method (codes "POST") method

-- as an Allow line names them (RFC 9110, section 10.2.1)
abbrev pub methods_text : Methods → List ℕ
methods_text Look = codes "GET, HEAD"
methods_text Make = codes "PUT, POST, DELETE"
methods_text Post = codes "POST"
