-- The phrases of RFC 9110, section 15, for the statuses that the desk answers.
use Rattle.std.specs.Prelude.{ℕ, List, [], codes, if◌then◌else◌, ◌==◌}

abbrev pub phrase_of : ℕ → List ℕ
phrase_of status =
    if status == 200 then codes "OK" else (
    if status == 201 then codes "Created" else (
    if status == 400 then codes "Bad Request" else (
    if status == 404 then codes "Not Found" else (
    if status == 405 then codes "Method Not Allowed" else (
    if status == 409 then codes "Conflict" else (
    if status == 413 then codes "Content Too Large" else (
    if status == 422 then codes "Unprocessable Content" else (
    if status == 431 then codes "Request Header Fields Too Large" else (
    if status == 501 then codes "Not Implemented" else (
    if status == 503 then codes "Service Unavailable" else (
    if status == 507 then codes "Insufficient Storage" else
    [])))))))))))
